use Rattle.std.proofs.Common.{◌≡◌, ℕ, List, ◌<◌, ◌+◌, ◌++◌, ◌∙◌, ap, sym, subst, refl, arith, rules}
use Rattle.std.proofs.Math.Facts.{to_z-of_z}
use Rattle.std.specs.Prelude.{codes, FitsSigned}
use Rattle.std.specs.Int.{w32}
use Rattle.std.specs.Fmt.{signed_decimal}
use Rattle.std.proofs.lemmas.List.{append-nil}
use Rattle.std.proofs.lemmas.Result.{err_from_is_err_and}
use Rattle.cn_base.specs.Pages.{IsHeld}
use Rattle.cn_base.specs.PageSums.{held_whole}
use Rattle.cn_base.specs.PageWords.{held_in, sink_in}
use Rattle.cn_base.specs.Texts.{in_turn}
use Rattle.cn_base.specs.TextSums.{cut_held_in_turn, held_in_turn}
use Rattle.checkpoint_slots.specs.declared.slot.Slot.{Slot}
use Rattle.cn_report.specs.Outcome.{value_of}
use Rattle.cn_report.proofs.variables.add_values.Goals as goal

-- a space and the value of a word, counted from some place on
abbrev value : Slot → ℕ → ℕ → List ℕ
value slot base k = codes " " ++ signed_decimal (value_of slot (base + k))

pub loop-k-init : goal.loop-k-init
loop-k-init g c = record {
  same_sink = refl;
  text = held_whole _ _ _ (sym (append-nil (held_in c.args.page.now)));
  faults = refl;
}

pub returns-in_err-add_value-clause-text : goal.returns-in_err-add_value-clause-text
returns-in_err-add_value-clause-text g c =
    let p = err_from_is_err_and c.from_residual.result c.from_residual.ensures.1 in
    let lt : c.loop-k.k < c.args.len = omega arith in
    let fits : FitsSigned w32 c.word.result = search rules in
    rw p.1
    (cut_held_in_turn (value c.args.slot.now c.args.base) c.loop-k.k c.args.len _ _ _ _ _ _ lt c.loop-k.invariant.text
    (ap (λ z. codes " " ++ signed_decimal z) (to_z-of_z fits ∙ c.word.ensures))
    c.in_err-add_value.ensures.text)

pub loop-k-preserved : goal.loop-k-preserved
loop-k-preserved g c =
    let fits : FitsSigned w32 c.word.result = search rules in
    record {
      same_sink = c.in_ok-add_value.ensures.same_sink ∙ c.loop-k.invariant.same_sink;
      text = held_in_turn (value c.args.slot.now c.args.base) c.loop-k.k _ _ _ _ _ _ _ c.loop-k.invariant.text
          (ap (λ z. codes " " ++ signed_decimal z) (to_z-of_z fits ∙ c.word.ensures))
          c.in_ok-add_value.ensures.text;
      faults = c.in_ok-add_value.ensures.cause.kept ∙ c.loop-k.invariant.faults;
    }

pub returns-clause-text : goal.returns-clause-text
returns-clause-text g c =
    let all : c.loop-k.k ≡ c.args.len = omega (arith, c.loop-k-test.false, c.loop-k.auto.k-end) in
    subst (λ (n : ℕ). IsHeld (g.K.Sink.written (sink_in c.args.page.now)) (g.K.Sink.written (sink_in c.loop-k.page)) (held_in c.args.page.now ++ in_turn (value c.args.slot.now c.args.base) n) (held_in c.loop-k.page))
    all c.loop-k.invariant.text
