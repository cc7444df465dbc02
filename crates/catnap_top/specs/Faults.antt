-- What is refused once all files are read, and the answer of each fault: one line, and the status of the kind.
use Rattle.std.specs.Prelude.{ℕ, List, [], ◌∷◌, Option, codes, decimal}
use Rattle.cn_report.specs.Report.{window_line, rejected_line}
use Rattle.cn_tables.specs.declared.fault.RowKind.{RowKind}
use Rattle.cn_tables.specs.declared.fault.RowKind.TheVariants as row
use Rattle.device_profile.specs.Keys.{text_of}
use Rattle.catnap_top.specs.declared.fault.NoChoice.{NoChoice}
use Rattle.catnap_top.specs.declared.fault.NoChoice.TheVariants as none
use Rattle.catnap_top.specs.declared.fault.ProfileFault.{ProfileFault}
use Rattle.catnap_top.specs.declared.fault.ProfileFault.TheVariants as profile
use Rattle.catnap_top.specs.declared.fault.Table.{Table}
use Rattle.catnap_top.specs.declared.fault.Table.TheVariants as table
use Rattle.catnap_top.specs.declared.fault.Fault.{Fault}
use Rattle.catnap_top.specs.declared.fault.Fault.TheVariants as fault
use Rattle.catnap_top.specs.declared.status.Status.{Status}
use Rattle.catnap_top.specs.declared.status.Status.TheVariants.{BadDevice, BadTrace, BadArrivals, BadFails, BadImage, BadObject, BadLink, BadForecast, WindowTooLong, Rejected}
use Rattle.catnap_top.specs.Answer.{Answer, line}
use Rattle.catnap_top.specs.FileFaults.{image_line, object_line}
use Rattle.catnap_top.specs.Refusals.{refused}

-- ---- a profile

abbrev pub profile_line : ProfileFault → List ℕ
profile_line profile.Long = codes "fault device long\n"
profile_line profile.Syntax = codes "fault device syntax\n"
profile_line (profile.Missing key) = line (codes "fault device " ∷ codes "key" ∷ codes " " ∷ text_of key ∷ codes "\n" ∷ [])
profile_line profile.Extra = codes "fault device extra\n"
profile_line (profile.Range key) = line (codes "fault device " ∷ codes "range" ∷ codes " " ∷ text_of key ∷ codes "\n" ∷ [])

-- ---- a table

abbrev pub table_name : Table → List ℕ
table_name table.Trace = codes "trace"
table_name table.Arrivals = codes "arrivals"
table_name table.Fails = codes "fails"
table_name table.Link = codes "link"
table_name table.Forecast = codes "forecast"

abbrev pub table_status : Table → Status
table_status table.Trace = BadTrace
table_status table.Arrivals = BadArrivals
table_status table.Fails = BadFails
table_status table.Link = BadLink
table_status table.Forecast = BadForecast

abbrev pub row_kind_name : RowKind → List ℕ
row_kind_name row.Long = codes "Long"
row_kind_name row.Header = codes "Header"
row_kind_name row.Many = codes "Many"
row_kind_name row.Fields = codes "Fields"
row_kind_name row.Number = codes "Number"
row_kind_name row.Range = codes "Range"
row_kind_name row.Name = codes "Name"
row_kind_name row.Fill = codes "Fill"
row_kind_name row.Order = codes "Order"
row_kind_name row.Total = codes "Total"
row_kind_name row.Few = codes "Few"

-- the first row with a fault, and what is wrong with it
abbrev pub table_line : Table → ℕ → RowKind → List ℕ
table_line which number kind =
    line (codes "fault " ∷ table_name which ∷ codes " " ∷ decimal number ∷ codes " " ∷ row_kind_name kind ∷ codes "\n" ∷ [])

-- ---- every fault

-- why there is no choice, and for which row of the forecast, where a file gave it
abbrev pub no_choice_line : Option ℕ → NoChoice → List ℕ
no_choice_line row (none.Window spacing) = window_line row spacing
no_choice_line row (none.Rejected verdict) = rejected_line row verdict

abbrev pub no_choice_status : NoChoice → Status
no_choice_status (none.Window spacing) = WindowTooLong
no_choice_status (none.Rejected verdict) = Rejected

abbrev pub fault_answer : Fault → Answer
fault_answer (fault.Source kind) = refused kind
fault_answer (fault.Device kind) = record { status = BadDevice; text = profile_line kind }
fault_answer (fault.Table which number kind) = record { status = table_status which; text = table_line which number kind }
fault_answer (fault.Choice row why) = record { status = no_choice_status why; text = no_choice_line row why }
fault_answer (fault.Image bad) = record { status = BadImage; text = image_line bad.kind bad.at }
fault_answer (fault.Object bad) = record { status = BadObject; text = object_line bad.kind bad.place }
