-- The exit status of the program for each way in which a call ends.
use Rattle.std.specs.Prelude.{ℕ}
use Rattle.catnap_top.specs.declared.status.Status.{Status}
use Rattle.catnap_top.specs.declared.status.Status.TheVariants as status

abbrev pub number_of_status : Status → ℕ
number_of_status status.Done = 0
number_of_status status.Usage = 2
number_of_status status.ReadFault = 3
number_of_status status.WriteFault = 4
number_of_status status.BadSource = 5
number_of_status status.BadDevice = 6
number_of_status status.BadTrace = 7
number_of_status status.BadArrivals = 8
number_of_status status.BadFails = 9
number_of_status status.WindowTooLong = 10
number_of_status status.Rejected = 11
number_of_status status.LogFull = 12
number_of_status status.NoMemory = 13
number_of_status status.BadImage = 14
number_of_status status.BadForecast = 15
number_of_status status.BadObject = 16
number_of_status status.BadLink = 17
