-- A source stands for programs that say the same, or is refused for one kind at one byte.
use Rattle.std.proofs.Common.{◌≡◌, ℕ, List, Option, Some, None, Ok, Err, ap, sym, ◌∙◌, subst, arith}
use Rattle.cat_tokens.specs.declared.token.Token.{Token}
use Rattle.cat_tokens.specs.declared.lexer.LexFault.{LexFault}
use Rattle.cat_tokens.specs.Lexemes.{Lexeme, lexemes}
use Rattle.cat_tokens.specs.Lexes.{Lexes}
use Rattle.cn_base.specs.declared.tree.Tree.{Tree}
use Rattle.cn_base.specs.declared.tree.Item.{Item}
use Rattle.cat_syntax.specs.Grammar.{IsProgram}
use Rattle.cat_syntax.specs.Spells.{Spells, IsFault}
use Rattle.cat_conditions.specs.Pieces.{items_pieces, pieces}
use Rattle.cat_conditions.specs.Conditions.{IsFault as IsTypeFault, AllHold, all_conditions}
use Rattle.cat_program.specs.Checked.{Checked, IsChecked}
use Rattle.cat_resolve.specs.Program.{IsProgramOf}
use Rattle.same_program.specs.Same.{IsSame}
use Rattle.cat_places.specs.Starts.{first_tokens}
use Rattle.catnap_top.specs.declared.refusal.SourceFault.{SourceFault}
use Rattle.catnap_top.specs.declared.refusal.SourceKind.{SourceKind}
use Rattle.catnap_top.specs.Source.{IsSourceOf, IsRefused, too_long, no_tokens, no_tree, unchecked}
use Rattle.catnap_top.specs.Refusals.{kind_of_token_fault, kind_of_syntax_fault, kind_of_type_fault}
use Rattle.catnap_top.specs.Places.{byte_named, token_named, piece_named, byte_of_token, byte_of_piece}
use Rattle.catnap_top.specs.Files.{IsSource}
use Rattle.catnap_top.specs.Alike.{Agree, IsSameProgram}
use Rattle.catnap_top.proofs.OneFault.{one_syntax, spelled_or_not, one_condition, checked_or_not}

abbrev pub OneLexing : Type 0
OneLexing = (bytes : List ℕ) (a b : List Token) (f g : Option LexFault) → Lexes 0 bytes a f → Lexes 0 bytes b g → (a ≡ b) × (f ≡ g)

abbrev pub OneTree : Type 0
OneTree = (ts : List Lexeme) (a b : List Item) → IsProgram ts a → IsProgram ts b → a ≡ b

abbrev pub SameProgram : Type 0
SameProgram = (a b : Tree) (p q : Checked) → a.items ≡ b.items → IsProgramOf a p → IsProgramOf b q → IsSame p q

abbrev pub CheckedLaw : Type 0
CheckedLaw = (tree : Tree) (p : Checked) → AllHold all_conditions (pieces tree) → IsProgramOf tree p → IsChecked p

abbrev pub OneStarts : Type 0
OneStarts = (ts : List Lexeme) (tree : List Item) (d e : IsProgram ts tree) → first_tokens d ≡ first_tokens e

-- a refusal is its kind and its place
one_of_both : (a b : SourceFault) → a.kind ≡ b.kind → a.place ≡ b.place → a ≡ b
one_of_both a b kind place = ap (λ k. record { kind = k; place = a.place }) kind ∙ ap (λ n. record { kind = b.kind; place = n }) place

some_same : (x y : SourceKind) → Some x ≡ Some y → x ≡ y
some_same x y e = (cc)

module _ (lexing : OneLexing) (tree : OneTree) (starts : OneStarts) where
  module _ (source : List ℕ) where
    same_tokens : (ts us : List Token) → Lexes 0 source ts None → Lexes 0 source us None → ts ≡ us
    same_tokens ts us first second = (lexing source ts us None None first second).0

    whole_or_not : (ts us : List Token) (f : LexFault) → Lexes 0 source ts None → Lexes 0 source us (Some f) → ⊥
    whole_or_not ts us f first second = let same = (lexing source ts us None (Some f) first second).1 in (cc)

    same_fault : (ts us : List Token) (f g : LexFault) → Lexes 0 source ts (Some f) → Lexes 0 source us (Some g) → f ≡ g
    same_fault ts us f g first second = let same = (lexing source ts us (Some f) (Some g) first second).1 in (cc)

    same_items : (ts us : List Token) (a b : List Item) → Lexes 0 source ts None → Lexes 0 source us None → Spells (lexemes source ts) a → Spells (lexemes source us) b → a ≡ b
    same_items ts us a b first second spells other =
        tree (lexemes source us) a b (subst (λ l. IsProgram (lexemes source l) a) (same_tokens ts us first second) spells.derived) other.derived

    programs_same : (program : SameProgram) (p q : Checked) → IsSourceOf source p → IsSourceOf source q → IsSame p q
    programs_same program p q first second =
        program first.tree second.tree p q (same_items first.tokens second.tokens first.tree.items second.tree.items first.lexed second.lexed first.spelled second.spelled) first.program second.program

    source_or_not : (p : Checked) (a : SourceFault) → IsSourceOf source p → IsRefused source a → ⊥
    source_or_not p a is (too_long long kind place) = let short = is.within in omega arith
    source_or_not p a is (no_tokens ts f le lexes kind place) = whole_or_not is.tokens ts f is.lexed lexes
    source_or_not p a is (no_tree ts f le lexes fault kind place) =
        spelled_or_not (lexemes source ts) is.tree.items f a.kind (subst (λ l. Spells (lexemes source l) is.tree.items) (same_tokens is.tokens ts is.lexed lexes) is.spelled) fault kind
    source_or_not p a is (unchecked ts t f le lexes spells fault kind place) =
        checked_or_not (pieces t) f a.kind
        (subst (λ l. AllHold all_conditions (items_pieces l)) (same_items is.tokens ts is.tree.items t.items is.lexed lexes is.spelled spells) is.checked) fault kind

    -- the first tokens of the pieces are those of any derivation of these tokens for these items
    same_starts : (ts us : List Token) (a b : List Item) → ts ≡ us → a ≡ b → (d : IsProgram (lexemes source ts) a) (e : IsProgram (lexemes source us) b) → first_tokens d ≡ first_tokens e
    same_starts ts us a b tokens items d =
        subst (λ vs. (e : IsProgram (lexemes source vs) b) → first_tokens d ≡ first_tokens e) tokens
        (subst (λ xs. (e : IsProgram (lexemes source ts) xs) → first_tokens d ≡ first_tokens e) items (λ e. starts (lexemes source ts) a d e))

    one_refusal : (a b : SourceFault) → IsRefused source a → IsRefused source b → a ≡ b
    one_refusal a b (too_long long p k) (too_long more q n) = one_of_both a b (p ∙ sym q) (k ∙ sym n)
    one_refusal a b (too_long long p k) (no_tokens us g le second q n) = absurd (omega arith)
    one_refusal a b (too_long long p k) (no_tree us g le second fault q n) = absurd (omega arith)
    one_refusal a b (too_long long p k) (unchecked us u g le second spells fault q n) = absurd (omega arith)
    one_refusal a b (no_tokens ts f le first p k) (too_long long q n) = absurd (omega arith)
    one_refusal a b (no_tokens ts f le first p k) (no_tokens us g most second q n) =
        let same : f ≡ g = same_fault ts us f g first second in
        one_of_both a b (some_same a.kind b.kind (sym p ∙ (ap kind_of_token_fault same ∙ q))) (k ∙ (ap byte_named same ∙ sym n))
    one_refusal a b (no_tokens ts f le first p k) (no_tree us g most second fault q n) = absurd (whole_or_not us ts f second first)
    one_refusal a b (no_tokens ts f le first p k) (unchecked us u g most second spells fault q n) = absurd (whole_or_not us ts f second first)
    one_refusal a b (no_tree ts f le first fault p k) (too_long long q n) = absurd (omega arith)
    one_refusal a b (no_tree ts f le first fault p k) (no_tokens us g most second q n) = absurd (whole_or_not ts us g first second)
    one_refusal a b (no_tree ts f le first fault p k) (no_tree us g most second other q n) =
        let tokens : ts ≡ us = same_tokens ts us first second in
        let same : f ≡ g = one_syntax (lexemes source us) f g a.kind b.kind (subst (λ l. IsFault (lexemes source l) f) tokens fault) other p q in
        one_of_both a b (some_same a.kind b.kind (sym p ∙ (ap kind_of_syntax_fault same ∙ q)))
        (k ∙ (ap (λ l. byte_of_token source l (token_named f)) tokens ∙ (ap (λ x. byte_of_token source us (token_named x)) same ∙ sym n)))
    one_refusal a b (no_tree ts f le first fault p k) (unchecked us u g most second spells other q n) =
        absurd (spelled_or_not (lexemes source us) u.items f a.kind spells (subst (λ l. IsFault (lexemes source l) f) (same_tokens ts us first second) fault) p)
    one_refusal a b (unchecked ts t f le first spells fault p k) (too_long long q n) = absurd (omega arith)
    one_refusal a b (unchecked ts t f le first spells fault p k) (no_tokens us g most second q n) = absurd (whole_or_not ts us g first second)
    one_refusal a b (unchecked ts t f le first spells fault p k) (no_tree us g most second other q n) =
        absurd (spelled_or_not (lexemes source ts) t.items g b.kind spells (subst (λ l. IsFault (lexemes source l) g) (same_tokens us ts second first) other) q)
    one_refusal a b (unchecked ts t f le first spells fault p k) (unchecked us u g most second others other q n) =
        let tokens : ts ≡ us = same_tokens ts us first second in
        let items : t.items ≡ u.items = same_items ts us t.items u.items first second spells others in
        let same : f ≡ g = one_condition (pieces u) f g a.kind b.kind (subst (λ l. IsTypeFault (items_pieces l) f) items fault) other p q in
        let begins : first_tokens spells.derived ≡ first_tokens others.derived = same_starts ts us t.items u.items tokens items spells.derived others.derived in
        one_of_both a b (some_same a.kind b.kind (sym p ∙ (ap kind_of_type_fault same ∙ q)))
        (k ∙ (ap (λ l. byte_of_piece source l (first_tokens spells.derived) (piece_named f)) tokens
        ∙ (ap (λ places. byte_of_piece source us places (piece_named f)) begins
        ∙ (ap (λ x. byte_of_piece source us (first_tokens others.derived) (piece_named x)) same ∙ sym n))))

  pub one_source : SameProgram → CheckedLaw → (source : List ℕ) → Agree IsSameProgram (IsSource source) (IsSource source)
  one_source program checked source (Ok p) (Ok q) first second = record {
    first = checked first.tree p first.checked first.program;
    second = checked second.tree q second.checked second.program;
    same = programs_same source program p q first second;
  }
  one_source program checked source (Ok p) (Err g) first second = source_or_not source p g first second
  one_source program checked source (Err f) (Ok q) first second = source_or_not source q f second first
  one_source program checked source (Err f) (Err g) first second = one_refusal source f g first second
