-- A handler does what its list of statements does.
use Rattle.std.proofs.Common.{◌≡◌, ℕ, zero, suc, ◌+◌, ◌*◌, ◌<◌, ◌≤◌, Bool, true, false, List, [], ◌∷◌, ◌++◌, length, Some, refl, sym, ap, ◌∙◌, subst, arith, append-nil}
use Rattle.std.specs.Prelude.{max, nat_lt, if◌then◌else◌, slice_get, slice_set, ℤ, pos}
use Rattle.std.specs.Int.{w32, int_wrapping_sub}
use Rattle.std.proofs.Common.{rules}
use Rattle.std.proofs.lemmas.Int.{ints, wraps}
use Rattle.std.proofs.lemmas.Bool.Decides.{nat_tests}
use Rattle.std.proofs.Math.ListN.{length-set}
use Rattle.cat_program.specs.declared.syntax.Expr.{Expr}
use Rattle.nv_memory.specs.declared.device.Class.TheVariants.{Basic}
use Rattle.cat_program.specs.Value.{value_of, index_of, is_nought}
use Rattle.cat_program.specs.Body.{Simple, SetWord, SetElement, Emit, Raise, Body, Empty, Plain, When, Choice, Loop, Turns}
use Rattle.cat_program.specs.Meaning.{Store, effect, output, Handled, and_then, unchanged, times, either, handled}
use Rattle.cat_program.specs.Places.{expr_size, operands_size, body_size}
use Rattle.cat_program.specs.Checked.{Reads, Works, SimpleWorks, EventWorks}
use Rattle.cat_machine.specs.declared.instr.Instr.{Instr}
use Rattle.cat_machine.specs.declared.instr.Instr.TheVariants as i
use Rattle.cat_machine.specs.declared.instr.Mode.TheVariants.{Handler}
use Rattle.cat_machine.specs.ClassOf.{class_of}
use Rattle.cat_machine.specs.Costs.{Costs, code_cost, simple_cost, test_cost, handler_most}
use Rattle.cat_machine.specs.CodeValue.{CodeValue}
use Rattle.cat_machine.specs.Held.{Held}
use Rattle.cat_machine.specs.Machine.{moved, stored, if_so, went, act, fetched, after_step, until}
use Rattle.cat_machine.specs.Code.{expr_code, operands_code, simple_instr, body_code}
use Rattle.cat_machine.specs.LaidOut.{HasAt}
use Rattle.cat_machine.proofs.At.{has_front, has_rest}
use Rattle.cat_machine.proofs.Runs.{lt_true, until_suc, code_cost-append, Weighs, Leads, leads_on, leads_as, leads_here, one_leads}
use Rattle.cat_machine.proofs.Expressions.{expr_length, array_true, expr_leads}
use Rattle.cat_machine.proofs.Sizes.{operands_length, body_length}
use Rattle.cat_machine.proofs.Sections.{store_of}
use Rattle.cat_machine.specs.Fits.{HasShape}

abbrev pub with_store : Held → Store → Held
with_store h s = record { words = s.words; posts = s.posts; place = h.place; kept = h.kept; stack = h.stack; payload = h.payload }

pub less_one : (n : ℕ) → n ≤ 1000 → int_wrapping_sub w32 (pos (suc n)) (pos 1) ≡ pos n
less_one n h = first_of (omega (arith, ints), search (rules, wraps), grind (arith, ints), grind (arith, nat_tests))

pub not_nought : (n : ℕ) → is_nought (pos (suc n)) ≡ false
not_nought n = first_of (grind (arith, ints), grind (arith, nat_tests), search rules)

module _ (f : ℕ → ℕ) (u : Costs) (code : CodeValue) (weighs : Weighs f u code) (words posts : ℕ) where
  -- from one place to another, with what was handled, at no more than this cost
  pub record Passes (h : Held) (at : ℕ) (stack : List ℤ) (end : ℕ) (stack' : List ℤ) (d : Handled) (most : ℕ) : Type 0 where
    pub cost : ℕ
    pub within : cost ≤ most
    pub leads : Leads f Handler code (moved h at stack) (moved (with_store h d.store) end stack') cost d.outs
    pub shape : HasShape words posts (with_store h d.store)

  passes_on : (h : Held) (at mid end : ℕ) (s s1 s2 : List ℤ) (d : Handled) (g : Store → Handled) (m n : ℕ) → Passes h at s mid s1 d m → Passes (with_store h d.store) mid s1 end s2 (g d.store) n → Passes h at s end s2 (and_then d g) (m + n)
  passes_on h at mid end s s1 s2 d g m n a b = record {
    cost = a.cost + b.cost;
    within = omega (arith, a.within, b.within);
    leads = leads_on f Handler code _ _ _ a.cost b.cost d.outs (g d.store).outs a.leads b.leads;
    shape = b.shape;
  }

  -- a stretch that changes no store, and then the rest
  quiet_on : (h : Held) (at mid end : ℕ) (s s1 s2 : List ℤ) (d : Handled) (c n : ℕ) → Leads f Handler code (moved h at s) (moved h mid s1) c [] → Passes h mid s1 end s2 d n → Passes h at s end s2 d (c + n)
  quiet_on h at mid end s s1 s2 d c n l b = record {
    cost = c + b.cost;
    within = omega (arith, b.within);
    leads = leads_on f Handler code _ _ _ c b.cost [] d.outs l b.leads;
    shape = b.shape;
  }

  passes_as : (h : Held) (at end end' : ℕ) (s s' : List ℤ) (d : Handled) (m m' : ℕ) → end ≡ end' → m ≤ m' → Passes h at s end s' d m → Passes h at s end' s' d m'
  passes_as h at end end' s s' d m m' e le a = record {
    cost = a.cost;
    within = omega (arith, a.within);
    leads = leads_as f Handler code _ _ _ a.cost a.cost d.outs (ap (λ j. moved (with_store h d.store) j s') e) refl a.leads;
    shape = a.shape;
  }

  stays : (h : Held) (at : ℕ) (s : List ℤ) → HasShape words posts h → Passes h at s at s (unchanged (store_of h)) 0
  stays h at s shape = record { cost = 0; within = omega arith; leads = leads_here f Handler code (moved h at s); shape = record { words_are = shape.words_are; posts_are = shape.posts_are } }

  value_comes : (h : Held) (e : Expr) (pc : ℕ) (stack : List ℤ) → HasShape words posts h → Works words (length stack) e → HasAt code.instrs pc (expr_code e) → Leads f Handler code (moved h pc stack) (moved h (pc + expr_size e) (value_of e h.words h.payload ∷ stack)) (code_cost u (expr_code e)) []
  value_comes h e pc stack shape works has =
      expr_leads f u Handler code weighs h e pc stack has works.0 (subst (λ m. Reads m e) (sym shape.words_are) works.1)

  -- one instruction after which the store is another
  one_passes : (h : Held) (pc : ℕ) (stack stack' : List ℤ) (instr : Instr) (s : Store) → slice_get code.instrs pc ≡ Some instr → act Handler instr pc (moved h pc stack) ≡ went (stored h s.words s.posts (pc + 1) stack') → HasShape words posts (with_store h s) → Passes h pc stack (pc + 1) stack' (unchanged s) (u (class_of instr))
  one_passes h pc stack stack' instr s at does shape = record {
    cost = f pc;
    within = omega (arith, weighs.by pc instr at);
    leads = one_leads f Handler code h pc stack instr (stored h s.words s.posts (pc + 1) stack') at does;
    shape = shape;
  }

  -- an output
  one_emits : (h : Held) (pc c : ℕ) (v : ℤ) (stack : List ℤ) → slice_get code.instrs pc ≡ Some (i.Out c) → Leads f Handler code (moved h pc (v ∷ stack)) (moved h (pc + 1) stack) (f pc) ((c, v) ∷ [])
  unfolding act
  one_emits h pc c v stack at = record {
    path = pc ∷ [];
    costs = omega arith;
    by = λ k. (suc k, until_suc k Handler code (moved h pc (v ∷ stack)) ∙ ap (λ o. after_step Handler (until k Handler code) pc (fetched Handler pc (moved h pc (v ∷ stack)) o)) at);
  }

  keeps_words : (h : Held) (w : ℕ) (v : ℤ) → HasShape words posts h → HasShape words posts (with_store h (record { words = slice_set h.words w v; posts = h.posts }))
  keeps_words h w v shape = record { words_are = length-set h.words w v ∙ shape.words_are; posts_are = shape.posts_are }

  simple_passes : (s : Simple) (h : Held) (pc : ℕ) (stack : List ℤ) → HasShape words posts h → SimpleWorks words posts (length stack) s → HasAt code.instrs pc (operands_code s) → slice_get code.instrs (pc + operands_size s) ≡ Some (simple_instr s) → Passes h pc stack (pc + operands_size s + 1) stack (record { store = effect s h.payload (store_of h); outs = output s h.payload (store_of h) }) (simple_cost u s)
  unfolding act
  simple_passes (SetWord word value) h pc stack shape works has at =
      let v = value_of value h.words h.payload in
      let pc' = pc + expr_size value in
      let s = effect (SetWord word value) h.payload (store_of h) in
      let within : nat_lt word (length h.words) ≡ true = lt_true word (length h.words) (subst (λ n. word < n) (sym shape.words_are) works.0) in
      quiet_on h pc pc' (pc' + 1) stack (v ∷ stack) stack (unchanged s) _ _ (value_comes h value pc stack shape works.1 has)
      (one_passes h pc' (v ∷ stack) stack (i.Store word) s at (ap (λ t. if_so t (went (stored h s.words s.posts (pc' + 1) stack))) within) (keeps_words h word v shape))
  simple_passes (SetElement base len index value) h pc stack shape works has at =
      let x = value_of index h.words h.payload in
      let y = value_of value h.words h.payload in
      let pc1 = pc + expr_size index in
      let pc2 = pc + (expr_size index + expr_size value) in
      let same : pc1 + expr_size value ≡ pc2 = omega arith in
      let s = effect (SetElement base len index value) h.payload (store_of h) in
      let deeper : length stack + 1 ≡ length (x ∷ stack) = omega arith in
      let within = array_true h.words base len works.0 (subst (λ n. base + len ≤ n) (sym shape.words_are) works.1) in
      let one = value_comes h index pc stack shape works.2 (has_front code.instrs pc (expr_code index) (expr_code value) has) in
      let two = value_comes h value pc1 (x ∷ stack) shape (subst (λ d. Works words d value) deeper works.3) (has_rest code.instrs pc pc1 (expr_code index) (expr_code value) (ap (λ m. pc + m) (expr_length index)) has) in
      let both = leads_as f Handler code (moved h pc stack) _ (moved h pc2 (y ∷ x ∷ stack)) _ _ [] (ap (λ m. moved h m (y ∷ x ∷ stack)) same) (sym (code_cost-append u (expr_code index) (expr_code value))) (leads_on f Handler code _ _ _ _ _ [] [] one two) in
      quiet_on h pc pc2 (pc2 + 1) stack (y ∷ x ∷ stack) stack (unchanged s) _ _ both
      (one_passes h pc2 (y ∷ x ∷ stack) stack (i.StoreAt base len) s at (ap (λ t. if_so t (went (stored h s.words s.posts (pc2 + 1) stack))) within) (keeps_words h (base + index_of x len) y shape))
  simple_passes (Emit channel value) h pc stack shape works has at =
      let v = value_of value h.words h.payload in
      let pc' = pc + expr_size value in
      record {
        cost = code_cost u (expr_code value) + f pc';
        within = omega (arith, weighs.by pc' (i.Out channel) at);
        leads = leads_on f Handler code _ _ _ _ _ [] ((channel, v) ∷ []) (value_comes h value pc stack shape works has) (one_emits h pc' channel v stack at);
        shape = record { words_are = shape.words_are; posts_are = shape.posts_are };
      }
  simple_passes (Raise task) h pc stack shape works has at =
      let here : pc + 0 ≡ pc = omega arith in
      let there : pc + 1 ≡ pc + 0 + 1 = omega arith in
      let s = effect (Raise task) h.payload (store_of h) in
      let within : nat_lt task (length h.posts) ≡ true = lt_true task (length h.posts) (subst (λ n. task < n) (sym shape.posts_are) works) in
      passes_as h pc (pc + 1) (pc + 0 + 1) stack stack (unchanged s) _ _ there (omega arith)
      (one_passes h pc stack stack (i.Post task) s (subst (λ m. slice_get code.instrs m ≡ Some (i.Post task)) here at) (ap (λ t. if_so t (went (stored h s.words s.posts (pc + 1) stack))) within) (record { words_are = shape.words_are; posts_are = length-set h.posts task _ ∙ shape.posts_are }))

  -- a test, and the jump that it decides
  test_comes : (e : Expr) (h : Held) (pc to : ℕ) (stack : List ℤ) → HasShape words posts h → Works words (length stack) e → HasAt code.instrs pc (expr_code e) → slice_get code.instrs (pc + expr_size e) ≡ Some (i.JumpZero to) → Leads f Handler code (moved h pc stack) (moved h (if is_nought (value_of e h.words h.payload) then to else pc + expr_size e + 1) stack) (test_cost u e) []
  unfolding act
  test_comes e h pc to stack shape works has at =
      let v = value_of e h.words h.payload in
      let pc' = pc + expr_size e in
      leads_as f Handler code _ _ _ _ _ [] refl (ap (λ x. code_cost u (expr_code e) + x) (weighs.by pc' (i.JumpZero to) at))
      (leads_on f Handler code _ _ _ _ _ [] [] (value_comes h e pc stack shape works has) (one_leads f Handler code h pc' (v ∷ stack) (i.JumpZero to) (moved h (if is_nought v then to else pc' + 1) stack) at refl))

  picked : (t : Bool) (h : Held) (zero_place one_place end : ℕ) (stack : List ℤ) (d0 d1 : Handled) (m m0 m1 : ℕ) → m0 ≤ m → m1 ≤ m → Passes h zero_place stack end stack d0 m0 → Passes h one_place stack end stack d1 m1 → Passes h (if t then zero_place else one_place) stack end stack (if t then d0 else d1) m
  picked true h zero_place one_place end stack d0 d1 m m0 m1 le0 le1 a b = passes_as h zero_place end end stack stack d0 m0 m refl le0 a
  picked false h zero_place one_place end stack d0 d1 m m0 m1 le0 le1 a b = passes_as h one_place end end stack stack d1 m1 m refl le1 b

  jump_comes : (h : Held) (pc to : ℕ) (stack : List ℤ) → slice_get code.instrs pc ≡ Some (i.Jump to) → Leads f Handler code (moved h pc stack) (moved h to stack) (u Basic) []
  unfolding act
  jump_comes h pc to stack at = leads_as f Handler code _ _ _ _ _ [] refl (weighs.by pc (i.Jump to) at) (one_leads f Handler code h pc stack (i.Jump to) (moved h to stack) at refl)

  -- a jump after what was handled
  jump_after : (h : Held) (at pc to : ℕ) (s s' : List ℤ) (d : Handled) (m : ℕ) → slice_get code.instrs pc ≡ Some (i.Jump to) → Passes h at s pc s' d m → Passes h at s to s' d (m + u Basic)
  jump_after h at pc to s s' d m e a = record {
    cost = a.cost + u Basic;
    within = omega (arith, a.within);
    leads = let l = leads_on f Handler code _ _ _ a.cost (u Basic) d.outs [] a.leads (jump_comes (with_store h d.store) pc to s' e) in
        subst (λ os. Leads f Handler code (moved h at s) (moved (with_store h d.store) to s') (a.cost + u Basic) os) (append-nil d.outs) l;
    shape = a.shape;
  }

  -- the turns of a repeat, whose counter lies on the stack
  times_pass : (n at first middle end : ℕ) (stack : List ℤ) (g : Store → Handled) (m : ℕ) (x : ℤ) → n ≤ 1000 → at + 1 ≡ first → slice_get code.instrs at ≡ Some (i.Turn end) → slice_get code.instrs middle ≡ Some (i.Jump at) → ((k : Held) (j : ℕ) → HasShape words posts k → k.payload ≡ x → Passes k first (pos j ∷ stack) middle (pos j ∷ stack) (g (store_of k)) m) → (h : Held) → HasShape words posts h → h.payload ≡ x → Passes h at (pos n ∷ stack) end stack (times n g (store_of h)) (n * (u Basic + m + u Basic) + u Basic)
  unfolding act
  times_pass zero at first middle end stack g m x le next turn back body h shape pay = record {
    cost = f at;
    within = omega (arith, weighs.by at (i.Turn end) turn);
    leads = one_leads f Handler code h at (pos 0 ∷ stack) (i.Turn end) (moved h end stack) turn refl;
    shape = record { words_are = shape.words_are; posts_are = shape.posts_are };
  }
  times_pass (suc n) at first middle end stack g m x le next turn back body h shape pay =
      let goes : act Handler (i.Turn end) at (moved h at (pos (suc n) ∷ stack)) ≡ went (moved h first (pos n ∷ stack)) =
      ap (λ t. went (if t then moved h end stack else moved h (at + 1) (int_wrapping_sub w32 (pos (suc n)) (pos 1) ∷ stack))) (not_nought n)
      ∙ ap (λ v. went (moved h (at + 1) (v ∷ stack))) (less_one n (omega arith))
      ∙ ap (λ j. went (moved h j (pos n ∷ stack))) next in
      let l = leads_as f Handler code _ _ _ _ _ [] refl (weighs.by at (i.Turn end) turn) (one_leads f Handler code h at (pos (suc n) ∷ stack) (i.Turn end) (moved h first (pos n ∷ stack)) turn goes) in
      let d = g (store_of h) in
      let a = jump_after h first middle at (pos n ∷ stack) (pos n ∷ stack) d m back (body h n shape pay) in
      let r = times_pass n at first middle end stack g m x (omega arith) next turn back body (with_store h d.store) a.shape pay in
      let both = passes_on h first at end (pos n ∷ stack) (pos n ∷ stack) stack d (times n g) (m + u Basic) (n * (u Basic + m + u Basic) + u Basic) a r in
      passes_as h at end end (pos (suc n) ∷ stack) stack _ _ _ refl (cost_sum n (u Basic) m) (quiet_on h at first end (pos (suc n) ∷ stack) (pos n ∷ stack) stack (times (suc n) g (store_of h)) (u Basic) _ l both)
    where
      cost_sum : (n b m : ℕ) → b + (m + b + (n * (b + m + b) + b)) ≤ suc n * (b + m + b) + b
      cost_sum n b m = grind arith

  pub handler_passes : (body : Body) (h : Held) (at : ℕ) (stack : List ℤ) → HasShape words posts h → EventWorks words posts (length stack) body → HasAt code.instrs at (body_code at body) → Passes h at stack (at + body_size body) stack (handled body h.payload (store_of h)) (handler_most u body)
  unfolding act
  handler_passes Empty h at stack shape works has = let e : at ≡ at + 0 = omega arith in passes_as h at at (at + 0) stack stack (unchanged (store_of h)) 0 0 e (omega arith) (stays h at stack shape)
  handler_passes (Plain b p s rest) h at stack shape works has =
      let n = operands_size s in
      let first = at + n + 1 in
      let d : Handled = record { store = effect s h.payload (store_of h); outs = output s h.payload (store_of h) } in
      let tail = has_rest code.instrs at (at + n) (operands_code s) (simple_instr s ∷ body_code first rest) (ap (λ j. at + j) (operands_length s)) has in
      let a = simple_passes s h at stack shape works.0 (has_front code.instrs at (operands_code s) _ has) tail.0 in
      let r = handler_passes rest (with_store h d.store) first stack a.shape works.1 tail.1 in
      let e : first + body_size rest ≡ at + (n + 1 + body_size rest) = omega arith in
      passes_as h at _ _ stack stack _ _ _ e (omega arith) (passes_on h at first (first + body_size rest) stack stack stack d (handled rest h.payload) (simple_cost u s) (handler_most u rest) a r)
  handler_passes (When b p e on rest) h at stack shape works has =
      let n = expr_size e in
      let v = value_of e h.words h.payload in
      let first = at + n + 1 in
      let end = first + body_size on in
      let tail = has_rest code.instrs at (at + n) (expr_code e) (i.JumpZero end ∷ (body_code first on ++ body_code end rest)) (ap (λ j. at + j) (expr_length e)) has in
      let d = either v (handled on h.payload (store_of h)) (unchanged (store_of h)) in
      let t = test_comes e h at end stack shape works.0 (has_front code.instrs at (expr_code e) _ has) tail.0 in
      let y = handler_passes on h first stack shape works.1 (has_front code.instrs first (body_code first on) _ tail.1) in
      let c = picked (is_nought v) h end first end stack (unchanged (store_of h)) (handled on h.payload (store_of h)) (handler_most u on) 0 (handler_most u on) (omega arith) (omega arith) (stays h end stack shape) y in
      let a = quiet_on h at _ end stack stack stack d (test_cost u e) (handler_most u on) t c in
      let r = handler_passes rest (with_store h d.store) end stack a.shape works.2 (has_rest code.instrs first end (body_code first on) (body_code end rest) (ap (λ j. first + j) (body_length on first)) tail.1) in
      let last : end + body_size rest ≡ at + (n + 1 + body_size on + body_size rest) = omega arith in
      passes_as h at _ _ stack stack _ _ _ last (omega arith) (passes_on h at end (end + body_size rest) stack stack stack d (handled rest h.payload) _ (handler_most u rest) a r)
  handler_passes (Choice b p e on off rest) h at stack shape works has =
      let n = expr_size e in
      let v = value_of e h.words h.payload in
      let first = at + n + 1 in
      let middle = first + body_size on in
      let second = middle + 1 in
      let end = second + body_size off in
      let tail = has_rest code.instrs at (at + n) (expr_code e) (i.JumpZero second ∷ (body_code first on ++ (i.Jump end ∷ (body_code second off ++ body_code end rest)))) (ap (λ j. at + j) (expr_length e)) has in
      let jump = has_rest code.instrs first middle (body_code first on) (i.Jump end ∷ (body_code second off ++ body_code end rest)) (ap (λ j. first + j) (body_length on first)) tail.1 in
      let d1 = handled on h.payload (store_of h) in
      let d0 = handled off h.payload (store_of h) in
      let d = either v d1 d0 in
      let t = test_comes e h at second stack shape works.0 (has_front code.instrs at (expr_code e) _ has) tail.0 in
      let y = jump_after h first middle end stack stack d1 (handler_most u on) jump.0 (handler_passes on h first stack shape works.1 (has_front code.instrs first (body_code first on) _ tail.1)) in
      let z = handler_passes off h second stack shape works.2 (has_front code.instrs second (body_code second off) _ jump.1) in
      let m = max (handler_most u on + u Basic) (handler_most u off) in
      let c = picked (is_nought v) h second first end stack d0 d1 m (handler_most u off) (handler_most u on + u Basic) (omega arith) (omega arith) z y in
      let a = quiet_on h at _ end stack stack stack d (test_cost u e) m t c in
      let r = handler_passes rest (with_store h d.store) end stack a.shape works.3 (has_rest code.instrs second end (body_code second off) (body_code end rest) (ap (λ j. second + j) (body_length off second)) jump.1) in
      let last : end + body_size rest ≡ at + (n + 1 + body_size on + 1 + body_size off + body_size rest) = omega arith in
      passes_as h at _ _ stack stack _ _ _ last (omega arith) (passes_on h at end (end + body_size rest) stack stack stack d (handled rest h.payload) _ (handler_most u rest) a r)
  handler_passes (Loop b p e body rest) h at stack shape works has = absurd works
  handler_passes (Turns b p n body rest) h at stack shape works has =
      let first = at + 2 in
      let middle = first + body_size body in
      let end = middle + 1 in
      let one : at + 1 + 1 ≡ first = omega arith in
      let code_first = subst (λ j. HasAt code.instrs j (body_code first body ++ (i.Jump (at + 1) ∷ body_code end rest))) one has.1.1 in
      let jump = has_rest code.instrs first middle (body_code first body) (i.Jump (at + 1) ∷ body_code end rest) (ap (λ j. first + j) (body_length body first)) code_first in
      let room : nat_lt (length stack) 32 ≡ true = lt_true (length stack) 32 (omega (arith, works.1)) in
      let push = leads_as f Handler code _ _ _ _ _ [] refl (weighs.by at (i.Push (pos n)) has.0) (one_leads f Handler code h at stack (i.Push (pos n)) (moved h (at + 1) (pos n ∷ stack)) has.0 (ap (λ t. if_so t (went (moved h (at + 1) (pos n ∷ stack)))) room)) in
      let deeper : length stack + 1 ≡ suc (length stack) = omega arith in
      let turns = times_pass n (at + 1) first middle end stack (handled body h.payload) (handler_most u body) h.payload works.0 one has.1.0 jump.0
      (λ k j sh pay. subst (λ x. Passes k first (pos j ∷ stack) middle (pos j ∷ stack) (handled body x (store_of k)) (handler_most u body)) pay
      (handler_passes body k first (pos j ∷ stack) sh (subst (λ l. EventWorks words posts l body) deeper works.2) (has_front code.instrs first (body_code first body) _ code_first)))
      h shape refl in
      let d = times n (handled body h.payload) (store_of h) in
      let a = quiet_on h at (at + 1) end stack (pos n ∷ stack) stack d (u Basic) (n * (u Basic + handler_most u body + u Basic) + u Basic) push turns in
      let r = handler_passes rest (with_store h d.store) end stack a.shape works.3 jump.1 in
      let last : end + body_size rest ≡ at + (2 + body_size body + 1 + body_size rest) = omega arith in
      passes_as h at _ _ stack stack _ _ _ last (omega arith) (passes_on h at end (end + body_size rest) stack stack stack d (handled rest h.payload) _ (handler_most u rest) a r)
