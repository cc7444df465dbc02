-- Statements one after the other, and the blocks that end within them.
use Rattle.std.proofs.Common.{◌≡◌, ℕ, suc, ◌+◌, ◌<◌, ◌^◌, List, [], ◌∷◌, ◌++◌, length, Option, ap, sym, ◌∙◌, subst, arith, append_assoc, length-append}
use Rattle.std.specs.Prelude.{map}
use Rattle.std.proofs.lemmas.List.{map-append, length-map}
use Rattle.cat_program.specs.declared.syntax.Stmt.{Stmt}
use Rattle.cat_conditions.specs.Plain.{Action, Actions, action, Else}
use Rattle.cat_resolve.specs.Names.{Meanings}
use Rattle.cat_resolve.specs.Form.{Formula, Command, command, commands, branch}
use Rattle.cat_resolve.specs.Blocks.{command_of, blocks_in, commands_of, blocks_within, else_number, else_blocks}

-- how many blocks have ended then
pub ended_length : (before now : List (List Stmt)) (blocks : List (List Command)) → commands now ≡ commands before ++ blocks → length now ≡ length before + length blocks
ended_length before now blocks e =
    sym (length-map now (map command)) ∙ ap length e ∙ length-append (commands before) blocks
    ∙ ap (λ k. k + length blocks) (length-map before (map command))

-- the numbers of the first block of two fit, and of the second
pub fits_first : (n : ℕ) (within others : List (List Command)) (own : List Command) → n + length (within ++ (own ∷ others)) < 2 ^ 32 → n + length (within ++ own ∷ []) < 2 ^ 32
fits_first n within others own h =
    let p : length (within ++ (own ∷ others)) ≡ length within + length (own ∷ others) = length-append within (own ∷ others) in
    let q : length (within ++ own ∷ []) ≡ length within + 1 = length-append within (own ∷ []) in
    omega (arith, p, q, h)

after_first : (n m : ℕ) (within : List (List Command)) (own : List Command) → m ≡ n + length (within ++ own ∷ []) → n + length within + 1 ≡ m
after_first n m within own e =
    let q : length (within ++ own ∷ []) ≡ length within + 1 = length-append within (own ∷ []) in
    omega (arith, q, e)

pub fits_second : (names : Meanings) (n m : ℕ) (within : List (List Command)) (own : List Command) (second : Else) → m ≡ n + length (within ++ own ∷ [])
    → n + length (within ++ (own ∷ else_blocks names (n + length within + 1) second)) < 2 ^ 32 → m + length (else_blocks names m second) < 2 ^ 32
fits_second names n m within own second e h =
    let at : n + length within + 1 ≡ m = after_first n m within own e in
    let more : n + length (within ++ (own ∷ else_blocks names m second)) < 2 ^ 32 = subst (λ k. n + length (within ++ (own ∷ else_blocks names k second)) < 2 ^ 32) at h in
    let p : length (within ++ (own ∷ else_blocks names m second)) ≡ length within + suc (length (else_blocks names m second)) = length-append within (own ∷ else_blocks names m second) in
    omega (arith, p, at, more)

pub branch_is : (names : Meanings) (n m k : ℕ) (within : List (List Command)) (own : List Command) (second : Else) (f g : Formula) (off : Option ℕ)
    → m ≡ n + length (within ++ own ∷ []) → f ≡ g → k ≡ n + length within → off ≡ else_number names m second
    → branch f k off ≡ branch g (n + length within) (else_number names (n + length within + 1) second)
branch_is names n m k within own second f g off e p q r =
    ap (λ z. branch z k off) p ∙ ap (λ z. branch g z off) q
    ∙ ap (branch g (n + length within)) (r ∙ ap (λ z. else_number names z second) (sym (after_first n m within own e)))

pub both_end : (names : Meanings) (n m : ℕ) (before mid now : List (List Command)) (within : List (List Command)) (own : List Command) (second : Else)
    → m ≡ n + length (within ++ own ∷ []) → mid ≡ before ++ (within ++ own ∷ []) → now ≡ mid ++ else_blocks names m second
    → now ≡ before ++ (within ++ (own ∷ else_blocks names (n + length within + 1) second))
both_end names n m before mid now within own second e p q =
    q ∙ ap (λ z. z ++ else_blocks names m second) p ∙ append_assoc before (within ++ own ∷ []) (else_blocks names m second)
    ∙ ap (λ z. before ++ z) (append_assoc within (own ∷ []) (else_blocks names m second))
    ∙ ap (λ z. before ++ (within ++ (own ∷ else_blocks names z second))) (sym (after_first n m within own e))

-- ---- one statement of a block

pub next_fits : (names : Meanings) (n m : ℕ) (before now : List (List Stmt)) (a : Action) (left rest : Actions) (all : List (List Command)) → n ≡ length before → m ≡ length now
    → left ≡ action a rest → commands now ++ blocks_within names m left ≡ commands before ++ all → n + length all < 2 ^ 32 → m + length (blocks_in names m a) < 2 ^ 32
next_fits names n m before now a left rest all e f l inv h =
    let whole : commands now ++ (blocks_in names m a ++ blocks_within names (m + length (blocks_in names m a)) rest) ≡ commands before ++ all =
    subst (λ z. commands now ++ blocks_within names m z ≡ commands before ++ all) l inv in
    let one = blocks_in names m a in
    let more = blocks_within names (m + length one) rest in
    let p : length (commands now ++ (one ++ more)) ≡ length (commands now) + length (one ++ more) = length-append (commands now) (one ++ more) in
    let q : length (one ++ more) ≡ length one + length more = length-append one more in
    let r : length (commands before ++ all) ≡ length (commands before) + length all = length-append (commands before) all in
    let s : length (commands now) ≡ length now = length-map now (map command) in
    let t : length (commands before) ≡ length before = length-map before (map command) in
    let same : length (commands now ++ (one ++ more)) ≡ length (commands before ++ all) = ap length whole in
    omega (arith, p, q, r, s, t, same, e, f, h)

pub next_found : (names : Meanings) (m m' : ℕ) (a : Action) (left rest : Actions) (found now : List Stmt) (s : Stmt) (all : List Command) → left ≡ action a rest
    → now ≡ found ++ s ∷ [] → command s ≡ command_of names m a → m' ≡ m + length (blocks_in names m a)
    → map command found ++ commands_of names m left ≡ all → map command now ++ commands_of names m' rest ≡ all
next_found names m m' a left rest found now s all l e p f inv =
    ap (λ z. map command z ++ commands_of names m' rest) e
    ∙ ap (λ z. z ++ commands_of names m' rest) (map-append command found (s ∷ []))
    ∙ append_assoc (map command found) (command s ∷ []) (commands_of names m' rest)
    ∙ ap (λ z. map command found ++ (z ∷ commands_of names m' rest)) p
    ∙ ap (λ z. map command found ++ (command_of names m a ∷ commands_of names z rest)) f
    ∙ ap (λ z. map command found ++ commands_of names m z) (sym l)
    ∙ inv

pub next_ended : (names : Meanings) (m m' : ℕ) (a : Action) (left rest : Actions) (before now all : List (List Command)) → left ≡ action a rest
    → now ≡ before ++ blocks_in names m a → m' ≡ m + length (blocks_in names m a)
    → before ++ blocks_within names m left ≡ all → now ++ blocks_within names m' rest ≡ all
next_ended names m m' a left rest before now all l e f inv =
    ap (λ z. z ++ blocks_within names m' rest) e
    ∙ append_assoc before (blocks_in names m a) (blocks_within names m' rest)
    ∙ ap (λ z. before ++ (blocks_in names m a ++ blocks_within names z rest)) f
    ∙ ap (λ z. before ++ blocks_within names m z) (sym l)
    ∙ inv
