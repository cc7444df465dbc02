-- One instruction of verified code leaves a state that fits again.
use Rattle.std.proofs.Common.{◌≡◌, ◌≢◌, ℕ, ◌<◌, ◌≤◌, ◌⊎◌, inl, inr, [], length, get_or, refl, sym, ◌∙◌, ap, subst, Bool, true, false}
use Rattle.std.specs.Prelude.{Option, Some, None}
use Rattle.std.proofs.lemmas.Option.{slice_get-get_or}
use Rattle.cat_machine.specs.declared.instr.Instr.{Instr}
use Rattle.cat_machine.specs.declared.instr.Instr.TheVariants as i
use Rattle.cat_machine.specs.declared.instr.Mode.{Mode}
use Rattle.cat_machine.specs.declared.instr.Mode.TheVariants.{Task, Handler}
use Rattle.cat_machine.specs.declared.instr.Did.TheVariants.{Ended}
use Rattle.cat_machine.specs.CodeValue.{CodeValue}
use Rattle.cat_machine.specs.Held.{Held}
use Rattle.cat_machine.specs.Machine.{Stepping, next_of, place_or, step_of}
use Rattle.cat_machine.specs.Fits.{ReadyFor}
use Rattle.cost_bounds.specs.Paths.{acts, place_after}
use Rattle.cn_object.specs.Regions.{versions_begin}
use Rattle.cn_object.specs.Verified.{IsVerified}
use Rattle.cn_object.specs.Fitting.{CanBeKept, FitsCode, StandsAt, StandsIn, Idle, InTask, InVersion}
use Rattle.object_runs.proofs.Places.{At, some_same, stack_at}
use Rattle.object_runs.proofs.Acts.{Does, Passes, Jumps, Tests, Leaves, TurnsIn, Ends, does}
use Rattle.object_runs.proofs.Onward.{onward, straight_not}
use Rattle.object_runs.proofs.Runs.{acts_here}
use Rattle.object_runs.proofs.Tasks.{IsIn, further, no_stack, over, rest_stands, stands_task}

pub instr_at : (code : CodeValue) (pc : ℕ) → pc < length code.instrs → At code pc (get_or code.instrs pc i.End)
instr_at code pc low = slice_get-get_or code.instrs pc i.End low

-- an end, or another instruction
pub end_or : (x : Instr) → (x ≡ i.End) ⊎ (x ≢ i.End)
end_or i.End = inl refl
end_or (i.Push n) = inr (λ e. cc)
end_or (i.Load w) = inr (λ e. cc)
end_or i.Payload = inr (λ e. cc)
end_or (i.Signed sign) = inr (λ e. cc)
end_or (i.Operate operator) = inr (λ e. cc)
end_or (i.Jump to) = inr (λ e. cc)
end_or (i.JumpZero to) = inr (λ e. cc)
end_or (i.Turn to) = inr (λ e. cc)
end_or (i.Begin t) = inr (λ e. cc)
end_or (i.LoadAt base len) = inr (λ e. cc)
end_or (i.Store w) = inr (λ e. cc)
end_or (i.StoreAt base len) = inr (λ e. cc)
end_or (i.Post t) = inr (λ e. cc)
end_or (i.Out c) = inr (λ e. cc)

pub bool_is : (b : Bool) → (b ≡ true) ⊎ (b ≡ false)
bool_is true = inl refl
bool_is false = inr refl

-- what the end of a handler leaves
pub record Finished (h : Held) (s : Stepping) : Type 0 where
  pub words_are : length s.after.words ≡ length h.words
  pub posts_are : length s.after.posts ≡ length h.posts
  pub stack_is : s.after.stack ≡ h.stack
  pub free : s.after.kept ≡ None
  pub did : s.did ≡ Ended
  pub back : h.kept ≡ Some s.after.place

pub finished : (pc : ℕ) (h : Held) (x : Instr) (s : Stepping) → x ≡ i.End → Does Handler pc h x s → Finished h s
finished pc h x s e (Passes straight place moves stays goes top) = absurd (straight_not x i.End straight refl e)
finished pc h x s e (Jumps to f place same stays goes) = absurd (let clash : i.Jump to ≡ i.End = sym f ∙ e in cc)
finished pc h x s e (Tests to next f way place moves stays goes) = absurd (let clash : i.JumpZero to ≡ i.End = sym f ∙ e in cc)
finished pc h x s e (Leaves to top f mode a b place moves stays goes) = absurd (let clash : i.Turn to ≡ i.End = sym f ∙ e in cc)
finished pc h x s e (TurnsIn to top f mode a b now place moves stays goes) = absurd (let clash : i.Turn to ≡ i.End = sym f ∙ e in cc)
finished pc h x s e (Ends f stack kept w p ends) = record { words_are = w; posts_are = p; stack_is = stack; free = kept; did = ends.0; back = ends.1 }

module _ (words tasks : ℕ) (code : CodeValue) (v : IsVerified words tasks code) where
  -- with other lists of the same lengths
  again : (h : Held) (s : Stepping) → words ≡ length h.words → tasks ≡ length h.posts → length code.tasks ≡ tasks → length s.after.words ≡ length h.words → length s.after.posts ≡ length h.posts → StandsIn code s.after → FitsCode code s.after
  again h s w t counted p q stands = record {
    verified = subst (λ z. IsVerified z (length s.after.posts) code) (w ∙ sym p) (subst (λ z. IsVerified words z code) (t ∙ sym q) v);
    tasks = counted ∙ t ∙ sym q;
    stands = stands;
  }

  task_again : (h : Held) (s : Stepping) (pc : ℕ) → words ≡ length h.words → tasks ≡ length h.posts → length code.tasks ≡ tasks → IsIn words tasks code v h pc → step_of Task code h ≡ Some s → FitsCode code s.after
  task_again h s pc w t counted is_in step =
      let x = get_or code.instrs pc i.End in
      let is = instr_at code pc is_in.stands.within in
      let done = does Task pc h x s (acts_here Task code h pc s is_in.next step x is) in
      elim (bool_is (acts x)) [
        | inl acting ↦ (let o = over words tasks code v pc x h s is_in is acting done in
            again h s w t counted o.words_are o.posts_are (rest_stands words tasks code v s.after o.free o.empty o.place))
        | inr quiet ↦ (let g = further words tasks code v pc x h s is_in is quiet done in
            again h s w t counted g.stays.words g.stays.posts (InTask (place_after x pc) (g.stays.kept ∙ is_in.kept) g.place g.task g.stands))
      ]

  handler_again : (h : Held) (s : Stepping) (pc : ℕ) (kept : Option ℕ) → words ≡ length h.words → tasks ≡ length h.posts → length code.tasks ≡ tasks → h.kept ≡ Some kept → CanBeKept code kept → h.place ≡ Some pc → versions_begin code ≤ pc → StandsAt code pc h.stack → step_of Handler code h ≡ Some s → FitsCode code s.after
  handler_again h s pc kept w t counted keeps can place high st step =
      let x = get_or code.instrs pc i.End in
      let is = instr_at code pc st.within in
      let next : next_of code h ≡ Some pc = ap (place_or code h.posts) place in
      let done = does Handler pc h x s (acts_here Handler code h pc s next step x is) in
      elim (end_or x) [
        | inl e ↦ (let f = finished pc h x s e done in
            let none = ((stack_at words tasks code v pc st.within st.depth st.is).suits x is).ends e in
            let empty : s.after.stack ≡ [] = f.stack_is ∙ no_stack h.stack st.depth st.stack_is none in
            let same : kept ≡ s.after.place = some_same kept s.after.place (sym keeps ∙ f.back) in
            again h s w t counted f.words_are f.posts_are (rest_stands words tasks code v s.after f.free empty (subst (CanBeKept code) same can)))
        | inr on ↦ (let o = onward words tasks code v pc x h s st is high on done in
            again h s w t counted o.stays.words o.stays.posts (InVersion o.next kept (o.stays.kept ∙ keeps) can o.place o.high o.stands))
      ]

stands_again : (code : CodeValue) (h : Held) (s : Stepping) → FitsCode code h → StandsIn code h → (kept : Option ℕ) → h.kept ≡ Some kept → step_of Handler code h ≡ Some s → FitsCode code s.after
stands_again code h s f (Idle none place empty) k some step = absurd (let clash : None ≡ Some k = sym none ∙ some in cc)
stands_again code h s f (InTask pc none place task stands) k some step = absurd (let clash : None ≡ Some k = sym none ∙ some in cc)
stands_again code h s f (InVersion pc kept keeps can place high stands) k some step = handler_again (length h.words) (length h.posts) code f.verified h s pc kept refl refl f.tasks keeps can place high stands step

pub fits_on : (code : CodeValue) (h : Held) (mode : Mode) (s : Stepping) → FitsCode code h → ReadyFor mode code h → step_of mode code h ≡ Some s → FitsCode code s.after
fits_on code h Task s f r step = task_again (length h.words) (length h.posts) code f.verified h s r.1.0 refl refl f.tasks (stands_task (length h.words) (length h.posts) code f.verified h r.1.0 f.stands r.0 r.1.1) step
fits_on code h Handler s f r step = stands_again code h s f f.stands r.0 r.1 step
