-- How a read of a record goes along the records of a text.
use Rattle.std.proofs.Common.{◌≡◌, ◌⊎◌, ℕ, ◌+◌, ◌<◌, ◌≤◌, zero, suc, List, [], ◌∷◌, length, Option, Some, None, Bool, true, false, ◌==◌, ◌&&◌, refl, sym, ap, subst, ◌∙◌, inl, inr, arith, add-one, Bor, get_or, unwrap_or, ◌||◌, not, IsSome, is_none}
use Rattle.std.specs.Prelude.{if◌then◌else◌}
use Rattle.std.proofs.lemmas.Bool.{false≢true}
use Rattle.std.proofs.lemmas.Option.{same_Some}
use Rattle.csv.specs.Machine.{Read, after_end, ends_at_end, ends_with, in_field, is_byte, is_end, next_record, start_field, start_record, step}
use Rattle.csv.specs.Reading.{ReadRecord, Reached, default_config, has_failed, records_from, records_next, source_of, Ready, is_flexible, took_first}
use Rattle.csv.specs.Records.{field_at}
use Rattle.csv.specs.declared.parser.Action.{Action}
use Rattle.csv.specs.declared.parser.Config.{Config}
use Rattle.csv.specs.declared.parser.State.{State}
use Rattle.csv.specs.declared.parser.State.TheVariants as st
use Rattle.csv.specs.declared.parser.Terminator.{Terminator}
use Rattle.csv.specs.declared.parser.Terminator.TheVariants as term
use Rattle.csv.specs.declared.reader.Headers.{Headers}
use Rattle.csv.specs.declared.reader.Reader.{Reader}
use Rattle.csv.proofs.ReadFacts.{rows-end, rows-more}
use Rattle.cn_tables.specs.RowsValue.{IsReading, is_ready, left_by, left_from, left_of}

-- a step that ends a record leaves a state between records
abbrev Ends : State × Action → Type 0
Ends q = is_end q.1 ≡ true → ends_at_end q.0 ≡ false

by_test : (b : Bool) (p q : State × Action) → Ends p → Ends q → Ends (if b then p else q)
by_test true p q x y = x
by_test false p q x y = y

after_end-between : (t : Terminator) (c : ℕ) → ends_at_end (after_end t c) ≡ false
after_end-between term.CRLF c = by (c == 13)
  where
    by : (b : Bool) → ends_at_end (if b then st.AfterCr else st.StartRecord) ≡ false
    by true = refl
    by false = refl
after_end-between (term.Any t) c = refl

in_field-ends : (cfg : Config) (c : ℕ) → Ends (in_field cfg c)
in_field-ends cfg c =
    by_test (c == cfg.delimiter) _ _ (λ e. absurd (false≢true e))
    (by_test (ends_with cfg.terminator c) _ _ (λ _. after_end-between cfg.terminator c) (λ e. absurd (false≢true e)))

start_field-ends : (cfg : Config) (c : ℕ) → Ends (start_field cfg c)
start_field-ends cfg c = by_test (cfg.quoting && (c == cfg.quote)) _ _ (λ e. absurd (false≢true e)) (in_field-ends cfg c)

start_record-ends : (cfg : Config) (c : ℕ) → Ends (start_record cfg c)
start_record-ends cfg c =
    by_test (ends_with cfg.terminator c) _ _ (λ e. absurd (false≢true e))
    (by_test (is_byte cfg.comment c) _ _ (λ e. absurd (false≢true e)) (start_field-ends cfg c))

step-ends : (cfg : Config) (s : State) (c : ℕ) → Ends (step cfg s c)
step-ends cfg st.StartRecord c = start_record-ends cfg c
step-ends cfg st.StartField c = start_field-ends cfg c
step-ends cfg st.InField c = in_field-ends cfg c
step-ends cfg st.InQuoted c =
    by_test (cfg.quoting && (c == cfg.quote)) _ _ (λ e. absurd (false≢true e))
    (by_test (cfg.quoting && is_byte cfg.escape c) _ _ (λ e. absurd (false≢true e)) (λ e. absurd (false≢true e)))
step-ends cfg st.InEscape c = λ e. absurd (false≢true e)
step-ends cfg st.AfterQuote c =
    by_test (cfg.quoting && cfg.double_quote && (c == cfg.quote)) _ _ (λ e. absurd (false≢true e)) (in_field-ends cfg c)
step-ends cfg st.InComment c = by_test (c == 10) _ _ (λ e. absurd (false≢true e)) (λ e. absurd (false≢true e))
step-ends cfg st.AfterCr c = by_test (c == 10) _ _ (λ e. absurd (false≢true e)) (start_record-ends cfg c)

-- which of two ways a record came
found_is : (b : Bool) (p q : Read) (o : Option Read) → (if b then Some p else o) ≡ Some q → ((b ≡ true) × (p ≡ q)) ⊎ ((b ≡ false) × (o ≡ Some q))
found_is true p q o e = inl (refl, same_Some _ _ e)
found_is false p q o e = inr (refl, e)

-- the state after a record stands between records
pub next-between : (cfg : Config) (s : State) (fields : List (List ℕ)) (field xs : List ℕ) (q : Read) → next_record cfg s fields field xs ≡ Some q → ends_at_end q.1 ≡ false
unfolding next_record
next-between cfg s fields field [] q e =
    elim (found_is (ends_at_end s) _ q None e) [
      | inl h ↦ subst (λ (x : Read). ends_at_end x.1 ≡ false) h.1 refl
      | inr h ↦ absurd (Prim.cc (h.1))
    ]
next-between cfg s fields field (c ∷ rest) q e =
    elim (found_is (is_end (step cfg s c).1) _ q _ e) [
      | inl h ↦ subst (λ (x : Read). ends_at_end x.1 ≡ false) h.1 (step-ends cfg s c h.0)
      | inr h ↦ next-between cfg (step cfg s c).0 _ _ rest q h.1
    ]

-- a record takes no byte twice
next-within : (cfg : Config) (s : State) (fields : List (List ℕ)) (field xs : List ℕ) (q : Read) → next_record cfg s fields field xs ≡ Some q → length q.2 ≤ length xs
unfolding next_record
next-within cfg s fields field [] q e =
    elim (found_is (ends_at_end s) _ q None e) [
      | inl h ↦ subst (λ (x : Read). length x.2 ≤ 0) h.1 (omega arith)
      | inr h ↦ absurd (Prim.cc (h.1))
    ]
next-within cfg s fields field (c ∷ rest) q e =
    elim (found_is (is_end (step cfg s c).1) _ q _ e) [
      | inl h ↦ subst (λ (x : Read). length x.2 ≤ suc (length rest)) h.1 (omega arith)
      | inr h ↦ let small : length q.2 ≤ length rest = next-within cfg (step cfg s c).0 _ _ rest q h.1 in omega arith
    ]

-- between records, each record takes a byte
pub next-shorter : (cfg : Config) (s : State) (fields : List (List ℕ)) (field xs : List ℕ) (q : Read) → ends_at_end s ≡ false → next_record cfg s fields field xs ≡ Some q → length q.2 < length xs
unfolding next_record
next-shorter cfg s fields field [] q between e =
    elim (found_is (ends_at_end s) _ q None e) [
      | inl h ↦ absurd (false≢true (sym between ∙ h.0))
      | inr h ↦ absurd (Prim.cc (h.1))
    ]
next-shorter cfg s fields field (c ∷ rest) q between e =
    elim (found_is (is_end (step cfg s c).1) _ q _ e) [
      | inl h ↦ subst (λ (x : Read). length x.2 < suc (length rest)) h.1 (omega arith)
      | inr h ↦ let small : length q.2 ≤ length rest = next-within cfg (step cfg s c).0 _ _ rest q h.1 in omega arith
    ]

-- one record more, and then as many as the count of turns allows
same_next : (cfg : Config) (n m : ℕ) (s : State) (xs : List ℕ) (o : Option Read) → next_record cfg s [] [] xs ≡ o → ends_at_end s ≡ false → length xs < suc n → length xs < suc m
    → ((s2 : State) (ys : List ℕ) → ends_at_end s2 ≡ false → length ys < n → length ys < m → records_from cfg n s2 ys ≡ records_from cfg m s2 ys)
    → records_next (records_from cfg n) o ≡ records_next (records_from cfg m) o
same_next cfg n m s xs None e between hn hm more = refl
same_next cfg n m s xs (Some q) e between hn hm more =
    let small : length q.2 < length xs = next-shorter cfg s [] [] xs q between e in
    ap (λ t. q.0 ∷ t) (more q.1 q.2 (next-between cfg s [] [] xs q e) (omega arith) (omega arith))

-- more turns than bytes are enough
pub records_from-enough : (cfg : Config) (n m : ℕ) (s : State) (xs : List ℕ) → ends_at_end s ≡ false → length xs < n → length xs < m → records_from cfg n s xs ≡ records_from cfg m s xs
unfolding records_from
records_from-enough cfg zero m s xs between hn hm = absurd (omega arith)
records_from-enough cfg (suc n) zero s xs between hn hm = absurd (omega arith)
records_from-enough cfg (suc n) (suc m) s xs between hn hm =
    same_next cfg n m s xs (next_record cfg s [] [] xs) refl between hn hm (records_from-enough cfg n m)

pub left_from-more : (s : State) (xs : List ℕ) (q : Read) → ends_at_end s ≡ false → next_record default_config s [] [] xs ≡ Some q → left_from s xs ≡ q.0 ∷ left_from q.1 q.2
unfolding records_from
left_from-more s xs q between e =
    let small : length q.2 < length xs = next-shorter default_config s [] [] xs q between e in
    rw (add-one (length xs), e) (ap (λ t. q.0 ∷ t) (records_from-enough default_config (length xs) (length q.2 + 1) q.1 q.2 (next-between default_config s [] [] xs q e) small (omega arith)))

pub left_from-none : (s : State) (xs : List ℕ) → next_record default_config s [] [] xs ≡ None → left_from s xs ≡ []
unfolding records_from
left_from-none s xs e = rw (add-one (length xs), e)

moved : (f g : List (List ℕ)) (s t : State) (x y : List ℕ) → f ≡ g → s ≡ t → x ≡ y → g ∷ left_from s x ≡ f ∷ left_from t y
moved f g s t x y p q r = rw (p, q, r) refl

-- a read that gave a record
pub read-more : {R : Type 0} (rem : R → Option (List ℕ)) (a b : Reader R) (f : List (List ℕ)) (y : List ℕ) → a.config ≡ default_config → ends_at_end a.state ≡ false
    → source_of rem a ≡ Some y → ReadRecord rem a b true f
    → (left_of rem a ≡ f ∷ left_of rem b) × (ends_at_end b.state ≡ false)
unfolding Reached
read-more rem a b f y config between known r =
    let (z, at_z, reached) = rows-more rem a b f default_config a.state y y [] config known (refl, refl) r in
    let (q, next, same, end) = reached in
    let (state, rest) = end in (
      ap (left_by a.state) known ∙ left_from-more a.state y q between next ∙ moved f q.0 q.1 b.state q.2 z same state rest ∙ ap (λ o. f ∷ left_by b.state o) (sym at_z),
      subst (λ s. ends_at_end s ≡ false) state (next-between default_config a.state [] [] y q next),
    )

-- a read that gave none
pub read-none : {R : Type 0} (rem : R → Option (List ℕ)) (a b : Reader R) (f : List (List ℕ)) (y : List ℕ) → a.config ≡ default_config
    → source_of rem a ≡ Some y → ReadRecord rem a b false f → left_of rem a ≡ []
read-none rem a b f y config known r = rw known (left_from-none a.state y (rows-end rem a b f default_config y config known r))

-- what is left of a source in memory is known
known_if : (b : Bool) (x y : List ℕ) → (z : List ℕ) × ((if b then Some x else Some y) ≡ Some z)
known_if true x y = (x, refl)
known_if false x y = (y, refl)

pub known_source : (a : Reader (Bor (List ℕ))) → has_failed a ≡ false → (z : List ℕ) × (source_of (λ s. Some s.now) a ≡ Some z)
known_source a going = rw going (known_if _ _ _)

-- a reader that has failed has nothing left
pub failed-none : {R : Type 0} (rem : R → Option (List ℕ)) (a : Reader R) → has_failed a ≡ true → left_of rem a ≡ []
failed-none rem a failed = rw failed

-- the field at a place, or no bytes
pub field_at-or : (fields : List (List ℕ)) (place : ℕ) → unwrap_or (field_at fields place) [] ≡ get_or fields place []
unfolding field_at
field_at-or [] place = refl
field_at-or (f ∷ fs) zero = refl
field_at-or (f ∷ fs) (suc place) = field_at-or fs place

ready_by : (first named : Bool) (headers : Option Headers) → (first || (not named && is_none headers)) ≡ true
    → (first ≡ true) ⊎ ((named ≡ true) × IsSome headers) ⊎ ((named ≡ false) × (headers ≡ None))
ready_by true named headers e = inl refl
ready_by false true headers e = absurd (false≢true e)
ready_by false false (Some h) e = absurd (false≢true e)
ready_by false false None e = inr (inr (refl, refl))

pub ready_is : {R : Type 0} (a : Reader R) → is_ready a ≡ true → Ready a
ready_is a e = ready_by a.first a.has_headers a.headers e

-- the reader stands between records again
pub read-goes : {R : Type 0} (rem : R → Option (List ℕ)) (a b : Reader R) (f : List (List ℕ)) (y : List ℕ) → IsReading a → source_of rem a ≡ Some y → ReadRecord rem a b true f
    → has_failed b ≡ has_failed a → is_flexible b ≡ is_flexible a → took_first b ≡ true → IsReading b
read-goes rem a b f y h known r going flexible first = record {
  going = going ∙ h.going;
  config = r.2 ∙ h.config;
  trim = r.3 ∙ h.trim;
  flexible = flexible ∙ h.flexible;
  ready = rw first refl;
  between = (read-more rem a b f y h.config h.between known r).1;
}
