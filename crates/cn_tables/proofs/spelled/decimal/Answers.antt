use Rattle.std.proofs.Common.{◌≡◌, ◌≤◌, ◌∙◌, sym, true, false, arith, get_or, rules}
use Rattle.cn_tables.specs.Number.{is_digit}
use Rattle.cn_tables.proofs.Digits.{decimal-digit, decimal-end, decimal-other, one_digit_more}
use Rattle.cn_tables.proofs.spelled.decimal.Goals as goal

pub returns-then-not-is_digit-clause-value : goal.returns-then-not-is_digit-clause-value
returns-then-not-is_digit-clause-value c =
    let (same, small, short) = c.loop-digit.invariant in
    let bad : is_digit (get_or c.args.digits.now c.loop-digit.digit-index 0) ≡ false = search rules in
    sym (same ∙ decimal-other c.loop-digit.value c.args.digits.now c.loop-digit.digit-index c.loop-digit-test.true bad)

pub loop-digit-preserved : goal.loop-digit-preserved
loop-digit-preserved c =
    let (same, small, short) = c.loop-digit.invariant in
    let good : is_digit (get_or c.args.digits.now c.loop-digit.digit-index 0) ≡ true = search rules in
    let digit = c.from.ensures in
    let most : get_or c.args.digits.now c.loop-digit.digit-index 0 ≤ 57 = search rules in
    (rw digit (same ∙ decimal-digit c.loop-digit.value c.args.digits.now c.loop-digit.digit-index c.loop-digit-test.true good), one_digit_more c.loop-digit.value c.from.result c.loop-digit.digit-index small (rw digit (omega (arith, most))), short)

pub returns-clause-value : goal.returns-clause-value
returns-clause-value c =
    let (same, small, short) = c.loop-digit.invariant in
    sym (same ∙ decimal-end c.loop-digit.value c.args.digits.now c.loop-digit.digit-index (omega arith))
