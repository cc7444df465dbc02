-- The forms of words.
use Rattle.std.specs.Prelude.{ℕ, ◌+◌, ◌-◌, ◌*◌, List, [], ◌∷◌, length, Bool, true, ◌&&◌, ◌==◌, nat_le, Option, Some, None, option_map, bytes_eq, codes, map, take, drop, string_bytes, String, if◌then◌else◌}
use Rattle.std.specs.declared.alloc.Global.{Global}
use Rattle.catnap_words.specs.declared.form.Form.{Form}
use Rattle.catnap_words.specs.declared.form.Form.TheVariants.{Run, List as Listing, Check, CheckForecast, Plan, Replay, ReplayForecast, Image, Resume, Uplink, Object, RunObject, Bench}

-- the bytes of each word
abbrev pub texts : List (String Global) → List (List ℕ)
texts words = map string_bytes words

-- ---- numbers

abbrev pub are_digits : List ℕ → Bool
are_digits [] = true
are_digits (digit ∷ digits) = nat_le 48 digit && nat_le digit 57 && are_digits digits

-- the value of digits behind a value
abbrev pub value_from : ℕ → List ℕ → ℕ
value_from value [] = value
value_from value (digit ∷ digits) = value_from (value * 10 + (digit - 48)) digits

-- 1 to `most` decimal digits of a value of at most `limit`; leading zeros are allowed
abbrev pub number_of : ℕ → ℕ → List ℕ → Option ℕ
number_of most limit word =
    if nat_le 1 (length word) && nat_le (length word) most && are_digits word && nat_le (value_from 0 word) limit
    then Some (value_from 0 word) else None

-- the greatest count of steps that `run` and `runobject` may be asked for
abbrev pub most_steps : ℕ
most_steps = 1000000

-- the greatest size that `bench` may be asked for
abbrev pub most_size : ℕ
most_size = 1665

-- ---- forms

-- how many words after the first name files
abbrev pub file_count : Form → ℕ
file_count (Run _) = 1
file_count Listing = 1
file_count Check = 2
file_count CheckForecast = 3
file_count Plan = 2
file_count Replay = 5
file_count ReplayForecast = 6
file_count Image = 5
file_count Resume = 6
file_count Uplink = 6
file_count Object = 1
file_count (RunObject _) = 1
file_count (Bench _) = 0

-- a form whose words are its files alone, behind which so many words stand
abbrev pub with_files : Form → ℕ → Option Form
with_files form count = if count == file_count form then Some form else None

-- such a form, or the one with a forecast behind its files
abbrev pub with_forecast : Form → Form → ℕ → Option Form
with_forecast form other count = if count == file_count form then Some form else with_files other count

-- the steps of `FILE STEPS`, STEPS having 1 to 7 digits
abbrev pub steps_of : List (List ℕ) → Option ℕ
steps_of (file ∷ steps ∷ []) = number_of 7 most_steps steps
steps_of _ = None

-- `SRC STEPS`
abbrev pub run_of : List (List ℕ) → Option Form
run_of behind = option_map (λ n. Run n) (steps_of behind)

-- `OBJ STEPS`
abbrev pub run_object_of : List (List ℕ) → Option Form
run_object_of behind = option_map (λ n. RunObject n) (steps_of behind)

-- `N`, having 1 to 4 digits
abbrev pub bench_of : List (List ℕ) → Option Form
bench_of (size ∷ []) = option_map (λ n. Bench n) (number_of 4 most_size size)
bench_of _ = None

-- a command, and the words behind it
abbrev pub form_by : List ℕ → List (List ℕ) → Option Form
form_by command behind =
    if bytes_eq command (codes "run") then run_of behind
    else if bytes_eq command (codes "list") then with_files Listing (length behind)
    else if bytes_eq command (codes "check") then with_forecast Check CheckForecast (length behind)
    else if bytes_eq command (codes "plan") then with_files Plan (length behind)
    else if bytes_eq command (codes "replay") then with_forecast Replay ReplayForecast (length behind)
    else if bytes_eq command (codes "image") then with_files Image (length behind)
    else if bytes_eq command (codes "resume") then with_files Resume (length behind)
    else if bytes_eq command (codes "uplink") then with_files Uplink (length behind)
    else if bytes_eq command (codes "object") then with_files Object (length behind)
    else if bytes_eq command (codes "runobject") then run_object_of behind
    else if bytes_eq command (codes "bench") then bench_of behind
    else None

abbrev pub form_of : List (List ℕ) → Option Form
form_of [] = None
form_of (command ∷ behind) = form_by command behind

-- the words of a form that name files, in order: the first is at place 1
abbrev pub names_of : Form → List (List ℕ) → List (List ℕ)
names_of form words = take (file_count form) (drop 1 words)
