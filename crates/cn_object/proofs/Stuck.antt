-- Verified code is never stuck.
use Rattle.std.proofs.Common.{◌≡◌, ◌≢◌, ℕ, ◌+◌, ◌-◌, ◌<◌, ◌≤◌, ◌⊎◌, inl, inr, ℤ, List, [], ◌∷◌, length, get_or, refl, sym, ◌∙◌, ap, subst, Bool, true, false, arith}
use Rattle.std.specs.Prelude.{◌&&◌, Option, Some, None, slice_get, nat_lt, nat_le}
use Rattle.std.proofs.lemmas.Option.{slice_get-get_or, slice_get_within}
use borrow.Author.Tests.{lt-ltb, le-leb, ltb-true, ltb-false}
use Rattle.cat_program.specs.Meaning.{first_posted}
use Rattle.cat_program.specs.Value.{word_at}
use Rattle.cat_machine.specs.declared.instr.Instr.{Instr}
use Rattle.cat_machine.specs.declared.instr.Instr.TheVariants as i
use Rattle.cat_machine.specs.declared.instr.Mode.{Mode}
use Rattle.cat_machine.specs.declared.instr.Mode.TheVariants.{Task, Handler}
use Rattle.cat_machine.specs.CodeValue.{CodeValue}
use Rattle.cat_machine.specs.Held.{Held}
use Rattle.cat_machine.specs.Machine.{Stepping, act, step_of, next_of, entry_of, place_or, step_at, fetched, if_so, on_top, on_two, pushed, ended}
use Rattle.cat_machine.specs.Fits.{ReadyFor}
use Rattle.cn_object.specs.Operands.{HasOperands}
use Rattle.cn_object.specs.Regions.{all_entries, versions_begin}
use Rattle.cn_object.specs.Depths.{taken, given, ways_of, way, Follows, LeadsTo, IsDepth}
use Rattle.cn_object.specs.Verified.{IsVerified}
use Rattle.cn_object.proofs.Spanning.{tasks_first}
use Rattle.cn_object.specs.Fitting.{StandsAt, StandsIn, Idle, InTask, InVersion, FitsCode}

abbrev Goes : Option Stepping → Type 0
Goes o = (s : Stepping) × (o ≡ Some s)

goes : (s : Stepping) → Goes (Some s)
goes s = (s, refl)

so_goes : (b : Bool) (o : Option Stepping) → b ≡ true → Goes o → Goes (if_so b o)
so_goes true o e g = g
so_goes false o e g = absurd (let clash : false ≡ true = e in cc)

push_goes : (v : ℤ) (pc : ℕ) (h : Held) → length h.stack < 32 → Goes (pushed v pc h)
push_goes v pc h room = so_goes (nat_lt (length h.stack) 32) _ (lt-ltb (length h.stack) 32 room) (goes _)

top_goes : (stack : List ℤ) (f : ℤ → List ℤ → Option Stepping) → 1 ≤ length stack → ((x : ℤ) (below : List ℤ) → Goes (f x below)) → Goes (on_top stack f)
top_goes [] f some g = absurd (omega (arith, some))
top_goes (x ∷ below) f some g = g x below

two_go : (stack : List ℤ) (f : ℤ → ℤ → List ℤ → Option Stepping) → 2 ≤ length stack → ((x y : ℤ) (below : List ℤ) → Goes (f x y below)) → Goes (on_two stack f)
two_go [] f some g = absurd (omega (arith, some))
two_go (y ∷ []) f some g = absurd (omega (arith, some))
two_go (y ∷ x ∷ below) f some g = g x y below

array_is : (words : List ℤ) (base len : ℕ) → 1 ≤ len → base + len ≤ length words → (nat_lt 0 len && nat_le (base + len) (length words)) ≡ true
array_is words base len some within = ap (λ b. b && nat_le (base + len) (length words)) (lt-ltb 0 len some) ∙ le-leb (base + len) (length words) within

-- what an instruction needs where it stands
record Finds (mode : Mode) (tasks count : ℕ) (x : Instr) (h : Held) : Type 0 where
  operands : HasOperands (length h.words) (length h.posts) count x
  deep : taken x ≤ length h.stack
  room : given x + length h.stack ≤ 32 + taken x
  turns : (to : ℕ) → x ≡ i.Turn to → mode ≡ Handler
  kept : (mode ≡ Task → h.kept ≡ None) × (mode ≡ Handler → (kept : Option ℕ) × (h.kept ≡ Some kept))

end_goes : (mode : Mode) (h : Held) (kept : Option (Option ℕ)) → (mode ≡ Task → kept ≡ None) × (mode ≡ Handler → (k : Option ℕ) × (kept ≡ Some k)) → Goes (ended mode h kept)
end_goes Task h None f = goes _
end_goes Task h (Some k) f = absurd (let clash : Some k ≡ None = f.0 refl in cc)
end_goes Handler h None f = absurd (let found = f.1 refl in let clash : None ≡ Some found.0 = found.1 in cc)
end_goes Handler h (Some k) f = goes _

turn_goes : (mode : Mode) (to pc : ℕ) (h : Held) → 1 ≤ length h.stack → mode ≡ Handler → Goes (act mode (i.Turn to) pc h)
unfolding act
turn_goes Task to pc h some e = absurd (let clash : Task ≡ Handler = e in cc)
turn_goes Handler to pc h some e = top_goes h.stack _ some (λ x below. goes _)

acts_on : (mode : Mode) (tasks count pc : ℕ) (x : Instr) (h : Held) → Finds mode tasks count x h → Goes (act mode x pc h)
unfolding act
acts_on mode tasks count pc (i.Push n) h f = push_goes n pc h (omega (arith, f.room))
acts_on mode tasks count pc (i.Load w) h f = so_goes (nat_lt w (length h.words)) _ (lt-ltb w (length h.words) f.operands) (push_goes (word_at h.words w) pc h (omega (arith, f.room)))
acts_on mode tasks count pc i.Payload h f = push_goes h.payload pc h (omega (arith, f.room))
acts_on mode tasks count pc (i.Signed s) h f = top_goes h.stack _ f.deep (λ x below. goes _)
acts_on mode tasks count pc (i.Operate o) h f = two_go h.stack _ f.deep (λ x y below. goes _)
acts_on mode tasks count pc (i.Jump to) h f = goes _
acts_on mode tasks count pc (i.JumpZero to) h f = top_goes h.stack _ f.deep (λ x below. goes _)
acts_on mode tasks count pc (i.Turn to) h f = turn_goes mode to pc h f.deep (f.turns to refl)
acts_on mode tasks count pc (i.Begin t) h f = so_goes (nat_lt t (length h.posts)) _ (lt-ltb t (length h.posts) f.operands) (goes _)
acts_on mode tasks count pc i.End h f = end_goes mode h h.kept f.kept
acts_on mode tasks count pc (i.LoadAt base len) h f = so_goes _ _ (array_is h.words base len f.operands.0 f.operands.1) (top_goes h.stack _ f.deep (λ x below. goes _))
acts_on mode tasks count pc (i.Store w) h f = so_goes (nat_lt w (length h.words)) _ (lt-ltb w (length h.words) f.operands) (top_goes h.stack _ f.deep (λ x below. goes _))
acts_on mode tasks count pc (i.StoreAt base len) h f = so_goes _ _ (array_is h.words base len f.operands.0 f.operands.1) (two_go h.stack _ f.deep (λ x y below. goes _))
acts_on mode tasks count pc (i.Post t) h f = so_goes (nat_lt t (length h.posts)) _ (lt-ltb t (length h.posts) f.operands) (goes _)
acts_on mode tasks count pc (i.Out c) h f = top_goes h.stack _ f.deep (λ x below. goes _)

-- ---- the place

some_same : {X : Type 0} (x y : X) → Some x ≡ Some y → x ≡ y
some_same x y e = cc

order_by : (a b : ℕ) (t : Bool) → nat_lt a b ≡ t → (a < b) ⊎ (b ≤ a)
order_by a b true e = inl (ltb-true a b e)
order_by a b false e = inr (ltb-false a b e)

-- where an instruction leads to the next place alone, that place has its depth
next_room : (words tasks : ℕ) (code : CodeValue) → IsVerified words tasks code → (pc depth later : ℕ) (x : Instr) → pc < length code.instrs → slice_get code.instrs pc ≡ Some x → IsDepth code pc depth
    → x ≢ i.End → ways_of x pc depth ≡ way (pc + 1) later ∷ [] → later ≤ 32
next_room words tasks code v pc depth later x low is at on ways =
    let inside : pc + 1 < length code.instrs = elim (order_by (pc + 1) (length code.instrs) (nat_lt (pc + 1) (length code.instrs)) refl) [
      | inl h ↦ h
      | inr h ↦ absurd (let last : pc + 1 ≡ length code.instrs = omega (arith, low, h) in on ((v.regions pc low x is).ends.1 (inr last)))
    ] in
    let stack = v.stacks (pc + 1) inside in
    let leads : LeadsTo code pc depth (pc + 1) later = (x, 0, is, ap (λ ws. slice_get ws 0) ways) in
    let same : later ≡ stack.0 = stack.1.is.agreed later (Follows at.brought (omega arith) leads) in
    omega (arith, same, stack.1.room)

push_end : (n : ℤ) → i.Push n ≢ i.End
push_end n e = cc

load_end : (w : ℕ) → i.Load w ≢ i.End
load_end w e = cc

payload_end : i.Payload ≢ i.End
payload_end e = cc

room_at : (words tasks : ℕ) (code : CodeValue) → IsVerified words tasks code → (pc depth : ℕ) (x : Instr) → pc < length code.instrs → slice_get code.instrs pc ≡ Some x → IsDepth code pc depth → depth ≤ 32 → given x + depth ≤ 32 + taken x
room_at words tasks code v pc depth (i.Push n) low is at h = let r = next_room words tasks code v pc depth (depth - 0 + 1) (i.Push n) low is at (push_end n) refl in omega (arith, r)
room_at words tasks code v pc depth (i.Load w) low is at h = let r = next_room words tasks code v pc depth (depth - 0 + 1) (i.Load w) low is at (load_end w) refl in omega (arith, r)
room_at words tasks code v pc depth i.Payload low is at h = let r = next_room words tasks code v pc depth (depth - 0 + 1) i.Payload low is at payload_end refl in omega (arith, r)
room_at words tasks code v pc depth (i.Signed s) low is at h = omega (arith, h)
room_at words tasks code v pc depth (i.Operate o) low is at h = omega (arith, h)
room_at words tasks code v pc depth (i.Jump to) low is at h = omega (arith, h)
room_at words tasks code v pc depth (i.JumpZero to) low is at h = omega (arith, h)
room_at words tasks code v pc depth (i.Turn to) low is at h = omega (arith, h)
room_at words tasks code v pc depth (i.Begin t) low is at h = omega (arith, h)
room_at words tasks code v pc depth i.End low is at h = omega (arith, h)
room_at words tasks code v pc depth (i.LoadAt base len) low is at h = omega (arith, h)
room_at words tasks code v pc depth (i.Store w) low is at h = omega (arith, h)
room_at words tasks code v pc depth (i.StoreAt base len) low is at h = omega (arith, h)
room_at words tasks code v pc depth (i.Post t) low is at h = omega (arith, h)
room_at words tasks code v pc depth (i.Out c) low is at h = omega (arith, h)

abbrev KeptFor : Mode → Held → Type 0
KeptFor mode h = (mode ≡ Task → h.kept ≡ None) × (mode ≡ Handler → (kept : Option ℕ) × (h.kept ≡ Some kept))

stands_go : (mode : Mode) (code : CodeValue) (h : Held) (pc : ℕ) → IsVerified (length h.words) (length h.posts) code → next_of code h ≡ Some pc → StandsAt code pc h.stack
    → (mode ≡ Task → pc < versions_begin code) → KeptFor mode h → Goes (step_of mode code h)
stands_go mode code h pc v next s task kept =
    let x = get_or code.instrs pc i.End in
    let is : slice_get code.instrs pc ≡ Some x = slice_get-get_or code.instrs pc i.End s.within in
    let stack = v.stacks pc s.within in
    let same : stack.0 ≡ s.depth = s.is.agreed stack.0 stack.1.is.brought in
    let suits = stack.1.suits x is in
    let finds : Finds mode (length h.posts) (length code.instrs) x h = record {
      operands = v.operands pc s.within x is;
      deep = omega (arith, suits.finds, same, s.stack_is);
      room = let r = room_at (length h.words) (length h.posts) code v pc s.depth x s.within is s.is (omega (arith, same, stack.1.room)) in omega (arith, r, s.stack_is);
      turns = λ to e. in_handler mode (λ t. let low = task t in let high : versions_begin code ≤ pc = (v.regions pc s.within x is).turn to e in omega (arith, low, high));
      kept = kept;
    } in
    let done = acts_on mode (length h.posts) (length code.instrs) pc x h finds in
    subst (λ o. Goes (step_at mode code h o)) (sym next) (subst (λ o. Goes (fetched mode pc h o)) (sym is) done)
  where
    in_handler : (m : Mode) → (m ≡ Task → ⊥) → m ≡ Handler
    in_handler Task f = absurd (f refl)
    in_handler Handler f = refl

entry_goes : (code : CodeValue) (h : Held) (t pc : ℕ) → IsVerified (length h.words) (length h.posts) code → next_of code h ≡ Some pc → slice_get code.tasks t ≡ Some pc → h.stack ≡ [] → h.kept ≡ None → Goes (step_of Task code h)
entry_goes code h t pc v next entry empty kept =
    let in_all : slice_get (all_entries code) t ≡ Some pc = tasks_first code t (slice_get_within code.tasks t pc entry) ∙ entry in
    let low : pc < length code.instrs = v.entries.within t pc in_all in
    let x = get_or code.instrs pc i.End in
    let is : slice_get code.instrs pc ≡ Some x = slice_get-get_or code.instrs pc i.End low in
    let begin : x ≡ i.Begin t = ((v.regions pc low x is).begins t).1 entry in
    let operands : HasOperands (length h.words) (length h.posts) (length code.instrs) (i.Begin t) = subst (HasOperands (length h.words) (length h.posts) (length code.instrs)) begin (v.operands pc low x is) in
    let done : Goes (act Task (i.Begin t) pc h) = acts_on Task (length h.posts) (length code.instrs) pc (i.Begin t) h (record {
      operands = operands;
      deep = omega arith;
      room = omega (arith, ap length empty);
      turns = λ to e. absurd (let clash : i.Begin t ≡ i.Turn to = e in cc);
      kept = (λ e. kept, λ e. absurd (let clash : Task ≡ Handler = e in cc));
    }) in
    subst (λ o. Goes (step_at Task code h o)) (sym next) (subst (λ o. Goes (fetched Task pc h o)) (sym (is ∙ ap Some begin)) done)

posted_at : (code : CodeValue) (o : Option ℕ) (pc : ℕ) → entry_of code o ≡ Some pc → (t : ℕ) × (slice_get code.tasks t ≡ Some pc)
posted_at code None pc e = absurd (let clash : None ≡ Some pc = e in cc)
posted_at code (Some t) pc e = (t, e)

task_goes : (code : CodeValue) (h : Held) → IsVerified (length h.words) (length h.posts) code → StandsIn code h → h.kept ≡ None → (pc : ℕ) → next_of code h ≡ Some pc → Goes (step_of Task code h)
task_goes code h v (Idle kept place empty) none pc next =
    let from : entry_of code (first_posted h.posts) ≡ Some pc = sym (ap (place_or code h.posts) place) ∙ next in
    let entry = posted_at code (first_posted h.posts) pc from in
    entry_goes code h entry.0 pc v next entry.1 empty kept
task_goes code h v (InTask at kept place task stands) none pc next =
    stands_go Task code h at v (ap (place_or code h.posts) place) stands (λ e. task.task) (λ e. kept, λ e. absurd (let clash : Task ≡ Handler = e in cc))
task_goes code h v (InVersion at kept is can place high stands) none pc next = absurd (let clash : None ≡ Some kept = sym none ∙ is in cc)

handler_goes : (code : CodeValue) (h : Held) → IsVerified (length h.words) (length h.posts) code → StandsIn code h → (k : Option ℕ) → h.kept ≡ Some k → Goes (step_of Handler code h)
handler_goes code h v (Idle kept place empty) k some = absurd (let clash : None ≡ Some k = sym kept ∙ some in cc)
handler_goes code h v (InTask at kept place task stands) k some = absurd (let clash : None ≡ Some k = sym kept ∙ some in cc)
handler_goes code h v (InVersion at kept is can place high stands) k some =
    stands_go Handler code h at v (ap (place_or code h.posts) place) stands (λ e. absurd (let clash : Handler ≡ Task = e in cc)) (λ e. absurd (let clash : Handler ≡ Task = e in cc), λ e. (k, some))

pub never_stuck : (code : CodeValue) (h : Held) (mode : Mode) → FitsCode code h → ReadyFor mode code h → (s : Stepping) × (step_of mode code h ≡ Some s)
never_stuck code h Task f r = task_goes code h f.verified f.stands r.0 r.1.0 r.1.1
never_stuck code h Handler f r = handler_goes code h f.verified f.stands r.0 r.1
