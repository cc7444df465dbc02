-- How much a list of statements of an event puts out.
use Rattle.std.proofs.Common.{◌≡◌, ℕ, zero, suc, ◌+◌, ◌*◌, ◌≤◌, Bool, true, false, length, arith, length-append}
use Rattle.std.specs.Prelude.{max, ℤ, if◌then◌else◌}
use Rattle.cat_program.specs.Value.{value_of, is_nought}
use Rattle.cat_program.specs.Body.{Simple, SetWord, SetElement, Emit, Raise, Body, Empty, Plain, When, Choice, Loop, Turns}
use Rattle.cat_program.specs.Meaning.{Store, effect, output, Handled, unchanged, times, either, handled}
use Rattle.cat_program.specs.Checked.{simple_outs, most_outs}

either_outs : (t : Bool) (a b : Handled) (m : ℕ) → length a.outs ≤ m → length b.outs ≤ m → length (if t then b else a).outs ≤ m
either_outs true a b m x y = y
either_outs false a b m x y = x

times_outs : (n m : ℕ) (g : Store → Handled) → ((s : Store) → length (g s).outs ≤ m) → (s : Store) → length (times n g s).outs ≤ n * m
times_outs zero m g h s = omega arith
times_outs (suc n) m g h s =
    let more : n * m + m ≡ suc n * m = grind arith in
    omega (arith, length-append (g s).outs (times n g (g s).store).outs, h s, times_outs n m g h (g s).store, more)

simple_most : (s : Simple) (x : ℤ) (store : Store) → length (output s x store) ≤ simple_outs s
simple_most (SetWord word value) x store = omega arith
simple_most (SetElement base len index value) x store = omega arith
simple_most (Emit channel value) x store = omega arith
simple_most (Raise task) x store = omega arith

pub outs_most : (body : Body) (x : ℤ) (s : Store) → length (handled body x s).outs ≤ most_outs body
outs_most Empty x s = omega arith
outs_most (Plain b p simple rest) x s = omega (arith, length-append (output simple x s) (handled rest x (effect simple x s)).outs, simple_most simple x s, outs_most rest x (effect simple x s))
outs_most (When b p e on rest) x s =
    let v = value_of e s.words x in
    let d = either v (handled on x s) (unchanged s) in
    omega (arith, length-append d.outs (handled rest x d.store).outs, either_outs (is_nought v) (handled on x s) (unchanged s) (most_outs on) (outs_most on x s) (omega arith), outs_most rest x d.store)
outs_most (Choice b p e on off rest) x s =
    let v = value_of e s.words x in
    let d = either v (handled on x s) (handled off x s) in
    let m = max (most_outs on) (most_outs off) in
    omega (arith, length-append d.outs (handled rest x d.store).outs, either_outs (is_nought v) (handled on x s) (handled off x s) m (omega (arith, outs_most on x s)) (omega (arith, outs_most off x s)), outs_most rest x d.store)
outs_most (Loop b p e body rest) x s = outs_most rest x s
outs_most (Turns b p n body rest) x s =
    let d = times n (handled body x) s in
    omega (arith, length-append d.outs (handled rest x d.store).outs, times_outs n (most_outs body) (handled body x) (outs_most body x) s, outs_most rest x d.store)
