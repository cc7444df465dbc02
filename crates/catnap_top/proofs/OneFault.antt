-- A list of tokens, and a tree, has one fault.
use Rattle.std.proofs.Common.{◌≡◌, ℕ, zero, suc, ◌<◌, List, [], ◌∷◌, length, take, get_or, Some, inl, inr, refl, ap, sym, ◌∙◌, subst, arith}
use Rattle.std.proofs.lemmas.Bool.{cases_lt}
use Rattle.cat_tokens.specs.Lexemes.{Lexeme}
use Rattle.cn_base.specs.declared.tree.Item.{Item}
use Rattle.cat_syntax.specs.declared.fault.SyntaxFault.{SyntaxFault}
use Rattle.cat_syntax.specs.declared.fault.SyntaxFault.TheVariants as syntax
use Rattle.cat_syntax.specs.Spells.{IsUnspelled, Spells, IsFault}
use Rattle.cat_conditions.specs.declared.fault.TypeFault.{TypeFault}
use Rattle.cat_conditions.specs.declared.fault.TypeFault.TheVariants as type
use Rattle.cat_conditions.specs.Pieces.{Piece}
use Rattle.cat_conditions.specs.Offences.{IsFirst}
use Rattle.cat_conditions.specs.Conditions.{Condition, numbers_in_range, Offends, Holds, AllHold, all_conditions, IsFault as IsTypeFault}
use Rattle.catnap_top.specs.declared.refusal.SourceKind.{SourceKind}
use Rattle.catnap_top.specs.Refusals.{kind_of_syntax_fault, kind_of_type_fault}

-- neither of two numbers is below the other
same_number : (m n : ℕ) → (m < n → ⊥) → (n < m → ⊥) → m ≡ n
same_number m n below above =
    elim (cases_lt m n) [
      | inl less ↦ absurd (below less)
      | inr le ↦
          elim (cases_lt n m) [
            | inl more ↦ absurd (above more)
            | inr ge ↦ omega arith
          ]
    ]

-- ---- tokens

one_depth : (ts : List Lexeme) (m n : ℕ) → IsFault ts (syntax.TooDeep m) → IsFault ts (syntax.TooDeep n) → m ≡ n
one_depth ts m n first second = same_number m n (λ less. second.first m less first.deep) (λ more. first.first n more second.deep)

one_end : (ts : List Lexeme) (m n : ℕ) → IsUnspelled ts m → IsUnspelled ts n → m ≡ n
one_end ts m n first second = same_number m n (λ less. first.longest n less second.within second.valid) (λ more. second.longest m more first.within first.valid)

pub one_syntax : (ts : List Lexeme) (f g : SyntaxFault) (a b : SourceKind) → IsFault ts f → IsFault ts g → kind_of_syntax_fault f ≡ Some a → kind_of_syntax_fault g ≡ Some b → f ≡ g
one_syntax ts (syntax.TooDeep m) (syntax.TooDeep n) a b first second p q = ap (λ k. syntax.TooDeep k) (one_depth ts m n first second)
one_syntax ts (syntax.TooDeep m) (syntax.Syntax n) a b first second p q = absurd (second.shallow m first.within first.deep)
one_syntax ts (syntax.Syntax m) (syntax.TooDeep n) a b first second p q = absurd (first.shallow n second.within second.deep)
one_syntax ts (syntax.Syntax m) (syntax.Syntax n) a b first second p q = ap (λ k. syntax.Syntax k) (one_end ts m n first second)
one_syntax ts syntax.NoMemory g a b first second p q = absurd (cc)
one_syntax ts f syntax.NoMemory a b first second p q = absurd (cc)

pub spelled_or_not : (ts : List Lexeme) (items : List Item) (f : SyntaxFault) (a : SourceKind) → Spells ts items → IsFault ts f → kind_of_syntax_fault f ≡ Some a → ⊥
spelled_or_not ts items (syntax.TooDeep m) a spells is p = spells.shallow m is.within is.deep
spelled_or_not ts items (syntax.Syntax m) a spells is p = is.underived items spells.derived
spelled_or_not ts items syntax.NoMemory a spells is p = absurd (cc)

-- ---- a tree

-- the fault of the n-th condition, first at a piece
abbrev faults : List (ℕ → TypeFault)
faults =
    (λ n. type.BadNumber n) ∷ (λ n. type.TooManyVars n) ∷ (λ n. type.TooManyEvents n) ∷ (λ n. type.TooManyTasks n)
    ∷ (λ n. type.TooManyVersions n) ∷ (λ n. type.Twice n) ∷ (λ n. type.Unknown n) ∷ (λ n. type.WrongType n)
    ∷ (λ n. type.WhileInEvent n) ∷ (λ n. type.RepeatInTask n) ∷ (λ n. type.PayloadInTask n) ∷ (λ n. type.DeadlineTooLong n)
    ∷ (λ n. type.DegradeTooOften n) ∷ (λ n. type.StackTooDeep n) ∷ (λ n. type.HandlerTooLong n) ∷ (λ n. type.CodeTooLong n) ∷ []

abbrev fault_at : ℕ → ℕ → TypeFault
fault_at n place = (get_or faults n (λ k. type.BadNumber k)) place

abbrev condition_at : ℕ → Condition
condition_at n = get_or all_conditions n numbers_in_range

-- the n-th condition fails, first at this place, and those before it hold
record Fails (ps : List Piece) (f : TypeFault) : Type 0 where
  n : ℕ
  known : n < 16
  place : ℕ
  is_fault : f ≡ fault_at n place
  before : AllHold (take n all_conditions) ps
  fails : IsFirst (length ps) (Offends (condition_at n) ps) place

fails_as : (ps : List Piece) (f : TypeFault) (a : SourceKind) → IsTypeFault ps f → kind_of_type_fault f ≡ Some a → Fails ps f
fails_as ps (type.BadNumber at) a is e = record { n = 0; known = omega arith; place = at; is_fault = refl; before = is.0; fails = is.1 }
fails_as ps (type.TooManyVars at) a is e = record { n = 1; known = omega arith; place = at; is_fault = refl; before = is.0; fails = is.1 }
fails_as ps (type.TooManyEvents at) a is e = record { n = 2; known = omega arith; place = at; is_fault = refl; before = is.0; fails = is.1 }
fails_as ps (type.TooManyTasks at) a is e = record { n = 3; known = omega arith; place = at; is_fault = refl; before = is.0; fails = is.1 }
fails_as ps (type.TooManyVersions at) a is e = record { n = 4; known = omega arith; place = at; is_fault = refl; before = is.0; fails = is.1 }
fails_as ps (type.Twice at) a is e = record { n = 5; known = omega arith; place = at; is_fault = refl; before = is.0; fails = is.1 }
fails_as ps (type.Unknown at) a is e = record { n = 6; known = omega arith; place = at; is_fault = refl; before = is.0; fails = is.1 }
fails_as ps (type.WrongType at) a is e = record { n = 7; known = omega arith; place = at; is_fault = refl; before = is.0; fails = is.1 }
fails_as ps (type.WhileInEvent at) a is e = record { n = 8; known = omega arith; place = at; is_fault = refl; before = is.0; fails = is.1 }
fails_as ps (type.RepeatInTask at) a is e = record { n = 9; known = omega arith; place = at; is_fault = refl; before = is.0; fails = is.1 }
fails_as ps (type.PayloadInTask at) a is e = record { n = 10; known = omega arith; place = at; is_fault = refl; before = is.0; fails = is.1 }
fails_as ps (type.DeadlineTooLong at) a is e = record { n = 11; known = omega arith; place = at; is_fault = refl; before = is.0; fails = is.1 }
fails_as ps (type.DegradeTooOften at) a is e = record { n = 12; known = omega arith; place = at; is_fault = refl; before = is.0; fails = is.1 }
fails_as ps (type.StackTooDeep at) a is e = record { n = 13; known = omega arith; place = at; is_fault = refl; before = is.0; fails = is.1 }
fails_as ps (type.HandlerTooLong at) a is e = record { n = 14; known = omega arith; place = at; is_fault = refl; before = is.0; fails = is.1 }
fails_as ps (type.CodeTooLong at) a is e = record { n = 15; known = omega arith; place = at; is_fault = refl; before = is.0; fails = is.1 }
fails_as ps type.NoMemory a is e = absurd (cc)

holds_at : (cs : List Condition) (d : Condition) (m n : ℕ) (ps : List Piece) → m < n → m < length cs → AllHold (take n cs) ps → Holds (get_or cs m d) ps
holds_at cs d m zero ps less within all = absurd (omega arith)
holds_at [] d m (suc n) ps less within all = absurd (omega arith)
holds_at (c ∷ cs) d zero (suc n) ps less within all = all.0
holds_at (c ∷ cs) d (suc m) (suc n) ps less within all = holds_at cs d m n ps (omega arith) (omega arith) all.1

no_sooner : (ps : List Piece) (f g : TypeFault) (first : Fails ps f) (second : Fails ps g) → first.n < second.n → ⊥
no_sooner ps f g first second less =
    let long : length all_conditions ≡ 16 = refl in
    holds_at all_conditions numbers_in_range first.n second.n ps less (omega (arith, first.known)) second.before first.place first.fails.within first.fails.here

one_place : (ps : List Piece) (c : Condition) (m n : ℕ) → IsFirst (length ps) (Offends c ps) m → IsFirst (length ps) (Offends c ps) n → m ≡ n
one_place ps c m n first second = same_number m n (λ less. second.none_before m less first.here) (λ more. first.none_before n more second.here)

one_fault : (ps : List Piece) (f g : TypeFault) → Fails ps f → Fails ps g → f ≡ g
one_fault ps f g first second =
    let same : first.n ≡ second.n = same_number first.n second.n (no_sooner ps f g first second) (no_sooner ps g f second first) in
    let there : first.place ≡ second.place =
    one_place ps (condition_at second.n) first.place second.place (subst (λ n. IsFirst (length ps) (Offends (condition_at n) ps) first.place) same first.fails) second.fails in
    first.is_fault ∙ (ap (λ n. fault_at n first.place) same ∙ (ap (fault_at second.n) there ∙ sym second.is_fault))

pub one_condition : (ps : List Piece) (f g : TypeFault) (a b : SourceKind) → IsTypeFault ps f → IsTypeFault ps g → kind_of_type_fault f ≡ Some a → kind_of_type_fault g ≡ Some b → f ≡ g
one_condition ps f g a b first second p q = one_fault ps f g (fails_as ps f a first p) (fails_as ps g b second q)

pub checked_or_not : (ps : List Piece) (f : TypeFault) (a : SourceKind) → AllHold all_conditions ps → IsTypeFault ps f → kind_of_type_fault f ≡ Some a → ⊥
checked_or_not ps f a all is p =
    let fails = fails_as ps f a is p in
    let long : length all_conditions ≡ 16 = refl in
    let whole : take 16 all_conditions ≡ all_conditions = refl in
    holds_at all_conditions numbers_in_range fails.n 16 ps fails.known (omega (arith, fails.known)) all fails.place fails.fails.within fails.fails.here
