-- Two timelines from one point, on a board with known rules, take the same chunks up to their end.
use Rattle.std.proofs.Common.{◌≡◌, Bool, true, false, List, [], ◌∷◌, refl, sym, ap, ◌∙◌, subst}
use Rattle.std.specs.Prelude.{ℤ}
use Rattle.cat_program.specs.Checked.{Checked}
use Rattle.cat_machine.specs.Fits.{IsIdle}
use Rattle.cat_machine.specs.Unread.{SectionsReadNoPayload}
use Rattle.board_core.specs.declared.origin.ModelOrigin.{ModelOrigin}
use Rattle.board_core.specs.Laws.{RulesDecide}
use Rattle.board_core.specs.Reached.{IsReached}
use Rattle.cn_scheduler.specs.declared.plan.Plan.{Plan}
use Rattle.cn_scheduler.specs.declared.choice.Choice.{Choice}
use Rattle.cn_scheduler.specs.declared.engine.Chunk.TheVariants.{Ended}
use Rattle.cn_scheduler.specs.Point.{Point, held_of}
use Rattle.cn_scheduler.specs.Policy.{Chooses}
use Rattle.cn_scheduler.specs.Chunks.{Does, IsLawful, Link, is_last, point_after}
use Rattle.lawful_timeline.specs.Working.{IsSetUp}
use Rattle.lawful_timeline.specs.Claims.{EachPoint, IsAtWork, LawfulTimelinesHold, last_outcome}
use Rattle.one_timeline.specs.One.{EndsAlike}
use Rattle.one_timeline.proofs.Later.{later_line}
use Rattle.one_timeline.proofs.Coming.{IsPassed}
use Rattle.one_timeline.proofs.Alike.{Follow, chunks_alike}

abbrev pub ChoiceIsOne : Type 0
ChoiceIsOne = (plan : Plan) (p : Point) (one other : Choice) → Chooses plan p one → Chooses plan p other → one ≡ other

-- they end alike
record Agree (cs ds : List Link) (p : Point) : Type 0 where
  pub outcome : last_outcome cs ≡ last_outcome ds
  pub board : (point_after p cs).board ≡ (point_after p ds).board

idle_at : (program : Checked) (plan : Plan) (p : Point) → IsAtWork program plan p → (payload : ℤ) → IsIdle program (held_of p.work payload)
idle_at program plan p at payload = record { state = at.moment.state; corresponds = at.works.state payload }

module _ (program : Checked) (plan : Plan) (o : ModelOrigin) (rules : RulesDecide o) (unread : SectionsReadNoPayload) (choices : ChoiceIsOne) (set_up : IsSetUp program plan) where
  -- the first chunks
  first_alike : (p : Point) (c d : Link) (cs ds : List Link) → IsAtWork program plan p → IsReached o p.board → IsLawful plan p (c ∷ cs) → IsLawful plan p (d ∷ ds)
      → IsReached o (point_after c.after cs).board → IsReached o (point_after d.after ds).board → Follow o c.outcome d.outcome c.after d.after
  first_alike p c d cs ds at here x y end end' =
      let choice = choices plan p d.choice c.choice y.0.chosen x.0.chosen in
      let does : Does plan p c.choice d.outcome d.after = subst (λ (k : Choice). Does plan p k d.outcome d.after) choice y.0.does in
      let passed : IsPassed o c.after.board = record { last = (point_after c.after cs).board; later = later_line plan cs c.after x.2; reached = end } in
      let also : IsPassed o d.after.board = record { last = (point_after d.after ds).board; later = later_line plan ds d.after y.2; reached = end' } in
      chunks_alike o rules plan p here program unread set_up.checked set_up.code_is (idle_at program plan p at) c.choice c.outcome d.outcome c.after d.after passed also x.0.does does

  no_end : is_last Ended ≡ true → ⊥
  no_end e = cc

  ends_alike : (cs ds : List Link) (p : Point) → EachPoint (IsAtWork program plan) p cs → IsReached o p.board → IsLawful plan p cs → IsLawful plan p ds
      → is_last (last_outcome cs) ≡ true → is_last (last_outcome ds) ≡ true → IsReached o (point_after p cs).board → IsReached o (point_after p ds).board → Agree cs ds p
  ends_alike [] ds p points here x y last last' end end' = absurd (no_end last)
  ends_alike (c ∷ cs) [] p points here x y last last' end end' = absurd (no_end last')
  ends_alike (c ∷ cs) (d ∷ ds) p points here x y last last' end end' = by_end (is_last c.outcome) refl (ends_alike cs ds c.after)
    where
      alike : Follow o c.outcome d.outcome c.after d.after
      alike = first_alike p c d cs ds points.0 here x y end end'

      stop : (cs ds : List Link) → cs ≡ [] → ds ≡ [] → Agree (c ∷ cs) (d ∷ ds) p
      stop cs ds none none' =
          subst (λ (l : List Link). Agree (c ∷ l) (d ∷ ds) p) (sym none) (subst (λ (l : List Link). Agree (c ∷ []) (d ∷ l) p) (sym none') (record { outcome = alike.same.outcome; board = alike.same.board }))

      go : (cs ds : List Link) → is_last c.outcome ≡ false → is_last (last_outcome (c ∷ cs)) ≡ true → is_last (last_outcome (d ∷ ds)) ≡ true
          → (is_last (last_outcome cs) ≡ true → is_last (last_outcome ds) ≡ true → Agree cs ds c.after) → Agree (c ∷ cs) (d ∷ ds) p
      go [] ds goes last last' rest = absurd (cc)
      go (e ∷ cs) [] goes last last' rest = let same : is_last c.outcome ≡ is_last d.outcome = ap is_last alike.same.outcome in absurd (cc)
      go (e ∷ cs) (f ∷ ds) goes last last' rest =
          let ends = rest last last' in
          record { outcome = ends.outcome; board = ends.board ∙ ap (λ (q : Point). (point_after q (f ∷ ds)).board) (alike.onward goes) }

      by_end : (b : Bool) → is_last c.outcome ≡ b
          → (EachPoint (IsAtWork program plan) c.after cs → IsReached o c.after.board → IsLawful plan c.after cs → IsLawful plan c.after ds → is_last (last_outcome cs) ≡ true → is_last (last_outcome ds) ≡ true
          → IsReached o (point_after c.after cs).board → IsReached o (point_after c.after ds).board → Agree cs ds c.after) → Agree (c ∷ cs) (d ∷ ds) p
      by_end true is rest = stop cs ds (x.1 is) (y.1 (ap is_last (sym alike.same.outcome) ∙ is))
      by_end false is rest =
          let back = sym (alike.onward is) in
          go cs ds is last last'
          (λ l m. rest (points.1 is) alike.same.reached x.2 (subst (λ (q : Point). IsLawful plan q ds) back y.2) l m end (subst (λ (q : Point). IsReached o (point_after q ds).board) back end'))

pub ends_once : (program : Checked) (plan : Plan) (o : ModelOrigin) → RulesDecide o → SectionsReadNoPayload → ChoiceIsOne → LawfulTimelinesHold program plan → EndsAlike program plan o
ends_once program plan o rules unread choices hold p one other s t set_up begins here x y =
    let points = (hold.holds p x.chunks set_up begins x.lawful).points in
    let agree = ends_alike program plan o rules unread choices set_up x.chunks y.chunks p points here x.lawful y.lawful (ap is_last x.ends ∙ x.last) (ap is_last y.ends ∙ y.last)
    (subst (IsReached o) (sym x.leads) x.reached) (subst (IsReached o) (sym y.leads) y.reached) in
    (sym x.ends ∙ agree.outcome ∙ y.ends, sym x.leads ∙ agree.board ∙ y.leads)
