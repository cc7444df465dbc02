-- The value of digits, one after the other.
use Rattle.std.proofs.Common.{◌≡◌, ℕ, ◌+◌, ◌-◌, ◌*◌, ◌^◌, ◌<◌, ◌≤◌, List, drop, get_or, length, Some, None, true, false, arith, add-one}
use Rattle.std.proofs.Math.Nat.{pow-suc}
use Rattle.std.proofs.lemmas.List.{drop_all, drop_more}
use Rattle.cn_tables.specs.Number.{decimal, is_digit}

pub decimal-digit : (value : ℕ) (digits : List ℕ) (i : ℕ) → i < length digits → is_digit (get_or digits i 0) ≡ true
    → decimal value (drop i digits) ≡ decimal (value * 10 + (get_or digits i 0 - 48)) (drop (i + 1) digits)
unfolding decimal
decimal-digit value digits i within good = rw (drop_more digits i 0 within, good)

pub decimal-other : (value : ℕ) (digits : List ℕ) (i : ℕ) → i < length digits → is_digit (get_or digits i 0) ≡ false
    → decimal value (drop i digits) ≡ None
unfolding decimal
decimal-other value digits i within bad = rw (drop_more digits i 0 within, bad)

pub decimal-end : (value : ℕ) (digits : List ℕ) (i : ℕ) → length digits ≤ i → decimal value (drop i digits) ≡ Some value
unfolding decimal
decimal-end value digits i past = rw (drop_all i digits past)

pub one_digit_more : (value digit i : ℕ) → value < 10 ^ i → digit ≤ 9 → value * 10 + digit < 10 ^ (i + 1)
one_digit_more value digit i small single = rw (add-one i, pow-suc 10 i) (omega arith)
