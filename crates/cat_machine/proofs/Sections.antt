-- A section does what one step of the tasks does.
use Rattle.std.proofs.Common.{◌≡◌, ℕ, zero, suc, ◌+◌, ◌<◌, ◌≤◌, Bool, true, false, List, [], ◌∷◌, ◌++◌, length, Option, Some, None, refl, sym, ap, ◌∙◌, subst, arith}
use Rattle.std.specs.Prelude.{nat_lt, if◌then◌else◌, slice_get, slice_set, ℤ, pos, replicate}
use Rattle.cat_program.specs.declared.syntax.Expr.{Expr, Number, Payload, Word, Element', Signed', Chain'}
use Rattle.nv_memory.specs.declared.device.Class.TheVariants.{Basic}
use Rattle.cat_program.specs.Value.{value_of, index_of, is_nought}
use Rattle.cat_program.specs.Body.{Simple, SetWord, SetElement, Emit, Raise, Body, Empty, Plain, When, Choice, Loop, Turns, join}
use Rattle.cat_program.specs.Meaning.{Output, Store, raised, TaskStep, quietly, chosen, list_step}
use Rattle.cat_program.specs.Places.{expr_size, operands_size, body_size, Marks, marked, marks_of, rest_in, listed}
use Rattle.std.proofs.Math.ListN.{length-set}
use Rattle.cat_program.specs.Checked.{Reads, IsFree, Works, TestWorks, SimpleWorks, SimpleIsFree, TaskWorks}
use Rattle.std.specs.Option.{option_and_then}
use Rattle.cat_machine.specs.declared.instr.Instr.{Instr}
use Rattle.cat_machine.specs.declared.instr.Instr.TheVariants as i
use Rattle.cat_machine.specs.declared.instr.Mode.{Mode}
use Rattle.cat_machine.specs.declared.instr.Mode.TheVariants.{Task}
use Rattle.cat_machine.specs.declared.instr.Did.{Did}
use Rattle.cat_machine.specs.declared.instr.Did.TheVariants.{Acted, Emitted}
use Rattle.cat_machine.specs.ClassOf.{class_of}
use Rattle.cat_machine.specs.Costs.{Costs, code_cost, simple_cost, test_cost, first_cost, section_most}
use Rattle.cat_machine.specs.CodeValue.{CodeValue}
use Rattle.cat_machine.specs.Held.{Held}
use Rattle.cat_machine.specs.Machine.{moved, stored, if_so, acted, ended, act, fetched, follow, step_of, goes_on, prepended, after_step, until}
use Rattle.cat_machine.specs.Code.{expr_code, operands_code, simple_instr, body_code}
use Rattle.cat_machine.specs.Fits.{HasShape, Corresponds, stepped_of}
use Rattle.cat_machine.specs.LaidOut.{HasAt}
use Rattle.cat_machine.proofs.At.{has_front, has_rest}
use Rattle.cat_machine.proofs.Runs.{lt_true, until_suc, path_cost-append, code_cost-append, Weighs, Leads, leads_on, leads_as, leads_here, one_leads}
use Rattle.cat_machine.specs.Costs.{path_cost}
use Rattle.cat_machine.proofs.Expressions.{expr_length, array_true, expr_leads}
use Rattle.cat_machine.proofs.Free.{value-free}
use Rattle.cat_machine.proofs.Sizes.{operands_length, body_length, none_length, marks_length}

-- the machine ends its section or handler, with these places, at this cost
pub record Ends (f : ℕ → ℕ) (mode : Mode) (code : CodeValue) (h : Held) (cost : ℕ) (outs : List Output) (did : Did) (after : Held) : Type 0 where
  pub path : List ℕ
  pub costs : path_cost f path ≡ cost
  pub turns : ℕ
  pub is : until turns mode code h ≡ Some (record { path = path; outs = outs; did = did; after = after })

module _ (f : ℕ → ℕ) (mode : Mode) (code : CodeValue) where
  -- a stretch, and then an end
  pub ends_after : (h h1 after : Held) (c c' : ℕ) (os os' : List Output) (did : Did) → Leads f mode code h h1 c os → Ends f mode code h1 c' os' did after → Ends f mode code h (c + c') (os ++ os') did after
  ends_after h h1 after c c' os os' did l e =
      let a = l.by e.turns in
      record {
        path = l.path ++ e.path;
        costs = omega (arith, path_cost-append f l.path e.path, l.costs, e.costs);
        turns = a.0;
        is = a.1 ∙ ap (prepended l.path os) e.is;
      }

  pub ends_as : (h after after' : Held) (c c' : ℕ) (os : List Output) (did : Did) → after ≡ after' → c ≡ c' → Ends f mode code h c os did after → Ends f mode code h c' os did after'
  ends_as h after after' c c' os did e d l = subst (λ x. Ends f mode code h x os did after') d (subst (λ x. Ends f mode code h c os did x) e l)

  -- one instruction at which a run ends
  pub one_ends : (h : Held) (pc : ℕ) (stack : List ℤ) (instr : Instr) (did : Did) (after : Held) → slice_get code.instrs pc ≡ Some instr → act mode instr pc (moved h pc stack) ≡ Some (record { did = did; after = after }) → goes_on mode did ≡ None → Ends f mode code (moved h pc stack) (f pc) [] did after
  one_ends h pc stack instr did after at does stops =
      let stepped : step_of mode code (moved h pc stack) ≡ Some (record { did = did; after = after }) = ap (fetched mode pc (moved h pc stack)) at ∙ does in
      record {
        path = pc ∷ [];
        costs = omega arith;
        turns = 1;
        is = until_suc 0 mode code (moved h pc stack) ∙ ap (after_step mode (until 0 mode code) pc) stepped ∙ ap (follow (until 0 mode code) pc (record { did = did; after = after })) stops;
      }

abbrev pub store_of : Held → Store
store_of h = record { words = h.words; posts = h.posts }

-- a section from here does this step, at this cost
pub record Answers (f : ℕ → ℕ) (code : CodeValue) (marks : Marks) (words posts : ℕ) (h : Held) (s : TaskStep) (cost : ℕ) : Type 0 where
  pub did : Did
  pub after : Held
  pub ends : Ends f Task code h cost [] did after
  pub answer : stepped_of did ≡ s.answer
  pub corresponds : Corresponds marks after s.after
  pub shape : HasShape words posts after

module _ (f : ℕ → ℕ) (u : Costs) (code : CodeValue) (weighs : Weighs f u code) (marks : Marks) (words posts : ℕ) where
  -- from a place that stands for a list, whatever the variables are
  abbrev pub Meets : ℕ → Body → ℕ → Type 0
  Meets pc k cost = (h : Held) → HasShape words posts h → h.kept ≡ None → Answers f code marks words posts (moved h pc []) (list_step k (store_of h)) cost

  abbrev pub TaskAnswers : Held → TaskStep → ℕ → Type 0
  TaskAnswers h s cost = Answers f code marks words posts h s cost

  meets_as : (pc pc' : ℕ) (k : Body) (c c' : ℕ) → pc ≡ pc' → c ≡ c' → Meets pc k c → Meets pc' k c'
  meets_as pc pc' k c c' e d m = subst (λ x. Meets pc' k x) d (subst (λ x. Meets x k c) e m)

  -- a jump, and then a section
  pub jump_meets : (pc to : ℕ) (k : Body) (c : ℕ) → slice_get code.instrs pc ≡ Some (i.Jump to) → Meets to k c → Meets pc k (u Basic + c)
  unfolding act
  jump_meets pc to k c at m h shape free =
      let a = m h shape free in
      let jump = one_leads f Task code h pc [] (i.Jump to) (moved h to []) at refl in
      record {
        did = a.did;
        after = a.after;
        ends = ends_as f Task code _ _ a.after _ _ [] a.did refl (ap (λ x. x + c) (weighs.by pc (i.Jump to) at)) (ends_after f Task code _ (moved h to []) a.after (f pc) c [] [] a.did jump a.ends);
        answer = a.answer;
        corresponds = a.corresponds;
        shape = a.shape;
      }

  -- a value on an empty stack, where no payload is read
  value_leads : (h : Held) (e : Expr) (pc : ℕ) (stack : List ℤ) → HasShape words posts h → Works words (length stack) e → IsFree e → HasAt code.instrs pc (expr_code e) → Leads f Task code (moved h pc stack) (moved h (pc + expr_size e) (value_of e h.words (pos 0) ∷ stack)) (code_cost u (expr_code e)) []
  value_leads h e pc stack shape works free has =
      let reads = subst (λ m. Reads m e) (sym shape.words_are) works.1 in
      let l = expr_leads f u Task code weighs h e pc stack has works.0 reads in
      leads_as f Task code _ _ _ _ _ [] (ap (λ v. moved h (pc + expr_size e) (v ∷ stack)) (value-free h.words h.payload (pos 0) e free)) refl l

  -- operands, and an instruction that acts
  acts_after : (h : Held) (c pc pc' : ℕ) (stack : List ℤ) (instr : Instr) (did : Did) (after : Held) → slice_get code.instrs pc' ≡ Some instr → act Task instr pc' (moved h pc' stack) ≡ Some (record { did = did; after = after }) → goes_on Task did ≡ None → Leads f Task code (moved h pc []) (moved h pc' stack) c [] → Ends f Task code (moved h pc []) (c + u (class_of instr)) [] did after
  acts_after h c pc pc' stack instr did after at does stops l =
      ends_as f Task code _ _ after _ _ [] did refl (ap (λ x. c + x) (weighs.by pc' instr at))
      (ends_after f Task code _ _ after c (f pc') [] [] did l (one_ends f Task code h pc' stack instr did after at does stops))

  -- a store whose lists have the same lengths as before
  keeps : (h : Held) (words' : List ℤ) (posts' : List ℕ) (pc : ℕ) → HasShape words posts h → length words' ≡ length h.words → length posts' ≡ length h.posts → HasShape words posts (stored h words' posts' pc [])
  keeps h words' posts' pc shape e d = record { words_are = e ∙ shape.words_are; posts_are = d ∙ shape.posts_are }

  simple_meets : (s : Simple) (b p : ℕ) (rest : Body) (pc : ℕ) → SimpleWorks words posts 0 s → SimpleIsFree s → HasAt code.instrs pc (operands_code s) → slice_get code.instrs (pc + operands_size s) ≡ Some (simple_instr s) → rest_in marks (pc + operands_size s + 1) ≡ Some rest → Meets pc (Plain b p s rest) (simple_cost u s)
  unfolding act
  simple_meets (SetWord word value) b p rest pc works is_free has at stands h shape free =
      let v = value_of value h.words (pos 0) in
      let pc' = pc + expr_size value in
      let after = stored h (slice_set h.words word v) h.posts (pc' + 1) [] in
      let within : nat_lt word (length h.words) ≡ true = lt_true word (length h.words) (subst (λ n. word < n) (sym shape.words_are) works.0) in
      record {
        did = Acted;
        after = after;
        ends = acts_after h _ pc pc' (v ∷ []) (i.Store word) Acted after at (ap (λ t. if_so t (acted Task after)) within) refl (value_leads h value pc [] shape works.1 is_free has);
        answer = refl;
        corresponds = record { words = refl; posts = refl; place = stands; free = free; empty = refl };
        shape = keeps h (slice_set h.words word v) h.posts (pc' + 1) shape (length-set h.words word v) refl;
      }
  simple_meets (SetElement base len index value) b p rest pc works is_free has at stands h shape free =
      let x = value_of index h.words (pos 0) in
      let y = value_of value h.words (pos 0) in
      let pc1 = pc + expr_size index in
      let pc2 = pc + (expr_size index + expr_size value) in
      let same : pc1 + expr_size value ≡ pc2 = omega arith in
      let after = stored h (slice_set h.words (base + index_of x len) y) h.posts (pc2 + 1) [] in
      let within = array_true h.words base len works.0 (subst (λ n. base + len ≤ n) (sym shape.words_are) works.1) in
      let one = value_leads h index pc [] shape works.2 is_free.0 (has_front code.instrs pc (expr_code index) (expr_code value) has) in
      let two = value_leads h value pc1 (x ∷ []) shape works.3 is_free.1 (has_rest code.instrs pc pc1 (expr_code index) (expr_code value) (ap (λ m. pc + m) (expr_length index)) has) in
      let both = leads_as f Task code (moved h pc []) _ (moved h pc2 (y ∷ x ∷ [])) _ _ [] (ap (λ m. moved h m (y ∷ x ∷ [])) same) (sym (code_cost-append u (expr_code index) (expr_code value))) (leads_on f Task code _ _ _ _ _ [] [] one two) in
      record {
        did = Acted;
        after = after;
        ends = acts_after h _ pc pc2 (y ∷ x ∷ []) (i.StoreAt base len) Acted after at (ap (λ t. if_so t (acted Task after)) within) refl both;
        answer = refl;
        corresponds = record { words = refl; posts = refl; place = stands; free = free; empty = refl };
        shape = keeps h (slice_set h.words (base + index_of x len) y) h.posts (pc2 + 1) shape (length-set h.words (base + index_of x len) y) refl;
      }
  simple_meets (Emit channel value) b p rest pc works is_free has at stands h shape free =
      let v = value_of value h.words (pos 0) in
      let pc' = pc + expr_size value in
      record {
        did = Emitted channel v;
        after = moved h (pc' + 1) [];
        ends = acts_after h _ pc pc' (v ∷ []) (i.Out channel) (Emitted channel v) (moved h (pc' + 1) []) at refl refl (value_leads h value pc [] shape works is_free has);
        answer = refl;
        corresponds = record { words = refl; posts = refl; place = stands; free = free; empty = refl };
        shape = record { words_are = shape.words_are; posts_are = shape.posts_are };
      }
  simple_meets (Raise task) b p rest pc works is_free has at stands h shape free =
      let here : pc + 0 ≡ pc = omega arith in
      let after = stored h h.words (raised h.posts task) (pc + 1) [] in
      let at' = subst (λ m. slice_get code.instrs m ≡ Some (i.Post task)) here at in
      let within : nat_lt task (length h.posts) ≡ true = lt_true task (length h.posts) (subst (λ n. task < n) (sym shape.posts_are) works) in
      record {
        did = Acted;
        after = after;
        ends = acts_after h 0 pc pc [] (i.Post task) Acted after at' (ap (λ t. if_so t (acted Task after)) within) refl (leads_here f Task code (moved h pc []));
        answer = refl;
        corresponds = record { words = refl; posts = refl; place = subst (λ m. rest_in marks (m + 1) ≡ Some rest) here stands; free = free; empty = refl };
        shape = keeps h h.words (raised h.posts task) (pc + 1) shape refl (length-set h.posts task _);
      }

  -- a test leads to one of two places
  chosen_rest : (t : Bool) (zero_place one_place : ℕ) (k0 k1 : Body) → rest_in marks zero_place ≡ Some k0 → rest_in marks one_place ≡ Some k1 → rest_in marks (if t then zero_place else one_place) ≡ Some (if t then k0 else k1)
  chosen_rest true zero_place one_place k0 k1 e d = e
  chosen_rest false zero_place one_place k0 k1 e d = d

  test_meets : (e : Expr) (k k0 k1 : Body) (pc to : ℕ) → ((s : Store) → list_step k s ≡ quietly s (Some (chosen (value_of e s.words (pos 0)) k1 k0))) → TestWorks words e → HasAt code.instrs pc (expr_code e) → slice_get code.instrs (pc + expr_size e) ≡ Some (i.JumpZero to) → rest_in marks to ≡ Some k0 → rest_in marks (pc + expr_size e + 1) ≡ Some k1 → Meets pc k (test_cost u e)
  unfolding act
  test_meets e k k0 k1 pc to steps works has at stands0 stands1 h shape free =
      let v = value_of e h.words (pos 0) in
      let pc' = pc + expr_size e in
      let after = moved h (if is_nought v then to else pc' + 1) [] in
      subst (λ s. TaskAnswers (moved h pc []) s (test_cost u e)) (sym (steps (store_of h))) (record {
        did = Acted;
        after = after;
        ends = acts_after h _ pc pc' (v ∷ []) (i.JumpZero to) Acted after at refl refl (value_leads h e pc [] shape works.0 works.1 has);
        answer = refl;
        corresponds = record { words = refl; posts = refl; place = chosen_rest (is_nought v) to (pc' + 1) k0 k1 stands0 stands1; free = free; empty = refl };
        shape = record { words_are = shape.words_are; posts_are = shape.posts_are };
      })

  pub end_meets : (pc : ℕ) → slice_get code.instrs pc ≡ Some i.End → Meets pc Empty (u Basic)
  unfolding act
  end_meets pc at h shape free =
      let after = out_of h in
      let does : act Task i.End pc (moved h pc []) ≡ Some (record { did = Acted; after = after }) = ap (ended Task (moved h pc [])) free in
      record {
        did = Acted;
        after = after;
        ends = ends_as f Task code (moved h pc []) after after (0 + u Basic) (u Basic) [] Acted refl (omega arith) (acts_after h 0 pc pc [] i.End Acted after at does refl (leads_here f Task code (moved h pc [])));
        answer = refl;
        corresponds = record { words = refl; posts = refl; place = tt; free = refl; empty = refl };
        shape = record { words_are = shape.words_are; posts_are = shape.posts_are };
      }
    where
      out_of : Held → Held
      out_of h = record { words = h.words; posts = h.posts; place = None; kept = None; stack = []; payload = h.payload }

  -- a jump leads to a place that stands for the same list
  abbrev pub JumpKeeps : ℕ → Body → Type 0
  JumpKeeps pc k = (to : ℕ) → slice_get code.instrs pc ≡ Some (i.Jump to) → rest_in marks to ≡ Some k

  -- each place of a list that stands for something meets it, and no cost is above m
  abbrev pub EachMeets : ℕ → ℕ → Marks → Type 0
  EachMeets m at [] = Unit {0}
  EachMeets m at (None ∷ ms) = EachMeets m (at + 1) ms
  EachMeets m at (Some k ∷ ms) = ((c : ℕ) × (c ≤ m) × Meets at k c × JumpKeeps at k) × EachMeets m (at + 1) ms

  pub each_append : (m at n : ℕ) (a b : Marks) → at + length a ≡ n → EachMeets m at a → EachMeets m n b → EachMeets m at (a ++ b)
  each_append m at n [] b e x y = let here : n ≡ at = omega arith in subst (λ j. EachMeets m j b) here y
  each_append m at n (None ∷ a) b e x y = each_append m (at + 1) n a b (omega arith) x y
  each_append m at n (Some k ∷ a) b e x y = (x.0, each_append m (at + 1) n a b (omega arith) x.1 y)

  pub each_none : (m at n : ℕ) → EachMeets m at (replicate {A = Option Body} n None)
  each_none m at zero = tt
  each_none m at (suc n) = each_none m (at + 1) n

  pub each_more : (m m' at : ℕ) (a : Marks) → m ≤ m' → EachMeets m at a → EachMeets m' at a
  each_more m m' at [] le x = tt
  each_more m m' at (None ∷ a) le x = each_more m m' (at + 1) a le x
  each_more m m' at (Some k ∷ a) le x = ((x.0.0, omega (arith, x.0.1), x.0.2, x.0.3), each_more m m' (at + 1) a le x.1)

  pub record Met (body k : Body) (at c : ℕ) : Type 0 where
    pub here : rest_in marks at ≡ Some (join body k)
    pub meets : Meets at (join body k) (first_cost u body c)
    pub each : EachMeets (section_most u body c) at (marks_of body k)

  marked_rest : (at n : ℕ) (k : Body) (b : Marks) → HasAt marks at (marked k n ++ b) → rest_in marks at ≡ Some k
  marked_rest at n k b has = ap (option_and_then listed) has.0

  -- an expression does not begin with a jump
  no_jump : (e : Expr) (pc to : ℕ) → HasAt code.instrs pc (expr_code e) → slice_get code.instrs pc ≡ Some (i.Jump to) → ⊥
  no_jump (Number n) pc to has w = let both : Some (i.Push n) ≡ Some (i.Jump to) = sym has.0 ∙ w in cc
  no_jump Payload pc to has w = let both : Some i.Payload ≡ Some (i.Jump to) = sym has.0 ∙ w in cc
  no_jump (Word x) pc to has w = let both : Some (i.Load x) ≡ Some (i.Jump to) = sym has.0 ∙ w in cc
  no_jump (Element' base len p index) pc to has w = no_jump index pc to (has_front code.instrs pc (expr_code index) _ has) w
  no_jump (Signed' sign p operand) pc to has w = no_jump operand pc to (has_front code.instrs pc (expr_code operand) _ has) w
  no_jump (Chain' p first s rest) pc to has w = no_jump first pc to (has_front code.instrs pc (expr_code first) _ has) w

  simple_no_jump : (s : Simple) (pc : ℕ) (k : Body) → HasAt code.instrs pc (operands_code s) → slice_get code.instrs (pc + operands_size s) ≡ Some (simple_instr s) → JumpKeeps pc k
  simple_no_jump (SetWord word value) pc k has at to w = absurd (no_jump value pc to has w)
  simple_no_jump (SetElement base len index value) pc k has at to w = absurd (no_jump index pc to (has_front code.instrs pc (expr_code index) _ has) w)
  simple_no_jump (Emit channel value) pc k has at to w = absurd (no_jump value pc to has w)
  simple_no_jump (Raise task) pc k has at to w =
      let here : pc + 0 ≡ pc = omega arith in
      let both : Some (i.Post task) ≡ Some (i.Jump to) = sym (subst (λ m. slice_get code.instrs m ≡ Some (i.Post task)) here at) ∙ w in
      cc

  jump_same : (pc there to : ℕ) (k : Body) → slice_get code.instrs pc ≡ Some (i.Jump there) → slice_get code.instrs pc ≡ Some (i.Jump to) → rest_in marks there ≡ Some k → rest_in marks to ≡ Some k
  jump_same pc there to k a b e = let both : Some (i.Jump there) ≡ Some (i.Jump to) = sym a ∙ b in let same : there ≡ to = cc in subst (λ j. rest_in marks j ≡ Some k) same e

  first_rest : (body k : Body) (at : ℕ) → HasAt marks at (marks_of body k) → rest_in marks (at + body_size body) ≡ Some k → TaskWorks words posts body → rest_in marks at ≡ Some (join body k)
  first_rest Empty k at stand stands only = let here : at + 0 ≡ at = omega arith in subst (λ j. rest_in marks j ≡ Some k) here stands
  first_rest (Plain b p s rest) k at stand stands only = marked_rest at (operands_size s) _ _ stand
  first_rest (When b p e on rest) k at stand stands only = marked_rest at (expr_size e) _ _ stand
  first_rest (Choice b p e on off rest) k at stand stands only = marked_rest at (expr_size e) _ _ stand
  first_rest (Loop b p e body rest) k at stand stands only = marked_rest at (expr_size e) _ _ stand
  first_rest (Turns b p n body rest) k at stand stands only = absurd only

  pub list_met : (body k : Body) (at c : ℕ) → TaskWorks words posts body → HasAt code.instrs at (body_code at body) → HasAt marks at (marks_of body k) → rest_in marks (at + body_size body) ≡ Some k → Meets (at + body_size body) k c → Met body k at c
  list_met Empty k at c works has stand stands meets =
      let here : at + 0 ≡ at = omega arith in
      record { here = subst (λ j. rest_in marks j ≡ Some k) here stands; meets = meets_as (at + 0) at k c c here refl meets; each = tt }
  list_met (Plain b p s rest) k at c works has stand stands meets =
      let n = operands_size s in
      let this = Plain b p s (join rest k) in
      let first = at + n + 1 in
      let end : at + (n + 1 + body_size rest) ≡ first + body_size rest = omega arith in
      let tail = has_rest code.instrs at (at + n) (operands_code s) (simple_instr s ∷ body_code first rest) (ap (λ j. at + j) (operands_length s)) has in
      let marks_at = has_rest marks at first (marked this n) (marks_of rest k) (omega (arith, none_length n)) stand in
      let r = list_met rest k first c works.2 tail.1 marks_at (subst (λ j. rest_in marks j ≡ Some k) end stands) (meets_as _ _ k c c end refl meets) in
      let m = simple_meets s b p (join rest k) at works.0 works.1 (has_front code.instrs at (operands_code s) _ has) tail.0 r.here in
      let most = section_most u (Plain b p s rest) c in
      record {
        here = marked_rest at n this (marks_of rest k) stand;
        meets = m;
        each = ((simple_cost u s, omega arith, m, simple_no_jump s at this (has_front code.instrs at (operands_code s) _ has) tail.0), each_append most (at + 1) first (replicate n None) (marks_of rest k) (omega (arith, none_length n)) (each_none most (at + 1) n) (each_more _ most first (marks_of rest k) (omega arith) r.each));
      }
  list_met (When b p e on rest) k at c works has stand stands meets =
      let n = expr_size e in
      let this = When b p e on (join rest k) in
      let first = at + n + 1 in
      let end = first + body_size on in
      let last : at + (n + 1 + body_size on + body_size rest) ≡ end + body_size rest = omega arith in
      let tail = has_rest code.instrs at (at + n) (expr_code e) (i.JumpZero end ∷ (body_code first on ++ body_code end rest)) (ap (λ j. at + j) (expr_length e)) has in
      let ms = has_rest marks at first (marked this n) (marks_of on (join rest k) ++ marks_of rest k) (omega (arith, none_length n)) stand in
      let r = list_met rest k end c works.2 (has_rest code.instrs first end (body_code first on) (body_code end rest) (ap (λ j. first + j) (body_length on first)) tail.1) (has_rest marks first end (marks_of on (join rest k)) (marks_of rest k) (ap (λ j. first + j) (marks_length on (join rest k))) ms) (subst (λ j. rest_in marks j ≡ Some k) last stands) (meets_as _ _ k c c last refl meets) in
      let y = list_met on (join rest k) first (first_cost u rest c) works.1 (has_front code.instrs first (body_code first on) _ tail.1) (has_front marks first (marks_of on (join rest k)) _ ms) r.here r.meets in
      let m = test_meets e this (join rest k) (join on (join rest k)) at end (λ s. refl) works.0 (has_front code.instrs at (expr_code e) _ has) tail.0 r.here y.here in
      let most = section_most u (When b p e on rest) c in
      record {
        here = marked_rest at n this _ stand;
        meets = m;
        each = (
          (test_cost u e, omega arith, m, (λ to w. absurd (no_jump e at to (has_front code.instrs at (expr_code e) _ has) w))),
          each_append most (at + 1) first (replicate n None) _ (omega (arith, none_length n)) (each_none most (at + 1) n)
              (each_append most first end (marks_of on (join rest k)) (marks_of rest k) (ap (λ j. first + j) (marks_length on (join rest k))) (each_more _ most first (marks_of on (join rest k)) (omega arith) y.each) (each_more _ most end (marks_of rest k) (omega arith) r.each)),
        );
      }
  list_met (Choice b p e on off rest) k at c works has stand stands meets =
      let n = expr_size e in
      let kr = join rest k in
      let this = Choice b p e on off kr in
      let first = at + n + 1 in
      let middle = first + body_size on in
      let second = middle + 1 in
      let end = second + body_size off in
      let last : at + (n + 1 + body_size on + 1 + body_size off + body_size rest) ≡ end + body_size rest = omega arith in
      let tail = has_rest code.instrs at (at + n) (expr_code e) (i.JumpZero second ∷ (body_code first on ++ (i.Jump end ∷ (body_code second off ++ body_code end rest)))) (ap (λ j. at + j) (expr_length e)) has in
      let jump = has_rest code.instrs first middle (body_code first on) (i.Jump end ∷ (body_code second off ++ body_code end rest)) (ap (λ j. first + j) (body_length on first)) tail.1 in
      let ms = has_rest marks at first (marked this n) (marks_of on kr ++ (Some kr ∷ (marks_of off kr ++ marks_of rest k))) (omega (arith, none_length n)) stand in
      let mj = has_rest marks first middle (marks_of on kr) (Some kr ∷ (marks_of off kr ++ marks_of rest k)) (ap (λ j. first + j) (marks_length on kr)) ms in
      let r = list_met rest k end c works.3 (has_rest code.instrs second end (body_code second off) (body_code end rest) (ap (λ j. second + j) (body_length off second)) jump.1) (has_rest marks second end (marks_of off kr) (marks_of rest k) (ap (λ j. second + j) (marks_length off kr)) mj.1) (subst (λ j. rest_in marks j ≡ Some k) last stands) (meets_as _ _ k c c last refl meets) in
      let z = list_met off kr second (first_cost u rest c) works.2 (has_front code.instrs second (body_code second off) _ jump.1) (has_front marks second (marks_of off kr) _ mj.1) r.here r.meets in
      let j = jump_meets middle end kr (first_cost u rest c) jump.0 r.meets in
      let y = list_met on kr first (u Basic + first_cost u rest c) works.1 (has_front code.instrs first (body_code first on) _ tail.1) (has_front marks first (marks_of on kr) _ ms) (ap (option_and_then listed) mj.0) j in
      let m = test_meets e this (join off kr) (join on kr) at second (λ s. refl) works.0 (has_front code.instrs at (expr_code e) _ has) tail.0 z.here y.here in
      let most = section_most u (Choice b p e on off rest) c in
      record {
        here = marked_rest at n this _ stand;
        meets = m;
        each = (
          (test_cost u e, omega arith, m, (λ to w. absurd (no_jump e at to (has_front code.instrs at (expr_code e) _ has) w))),
          each_append most (at + 1) first (replicate n None) _ (omega (arith, none_length n)) (each_none most (at + 1) n)
              (each_append most first middle (marks_of on kr) _ (ap (λ j. first + j) (marks_length on kr)) (each_more _ most first (marks_of on kr) (omega arith) y.each) (
                (u Basic + first_cost u rest c, omega arith, j, (λ to w. jump_same middle end to kr jump.0 w r.here)),
                each_append most second end (marks_of off kr) (marks_of rest k) (ap (λ j. second + j) (marks_length off kr)) (each_more _ most second (marks_of off kr) (omega arith) z.each) (each_more _ most end (marks_of rest k) (omega arith) r.each),
              )),
        );
      }
  list_met (Loop b p e body rest) k at c works has stand stands meets =
      let n = expr_size e in
      let kr = join rest k in
      let this = Loop b p e body kr in
      let first = at + n + 1 in
      let middle = first + body_size body in
      let end = middle + 1 in
      let last : at + (n + 1 + body_size body + 1 + body_size rest) ≡ end + body_size rest = omega arith in
      let tail = has_rest code.instrs at (at + n) (expr_code e) (i.JumpZero end ∷ (body_code first body ++ (i.Jump at ∷ body_code end rest))) (ap (λ j. at + j) (expr_length e)) has in
      let jump = has_rest code.instrs first middle (body_code first body) (i.Jump at ∷ body_code end rest) (ap (λ j. first + j) (body_length body first)) tail.1 in
      let ms = has_rest marks at first (marked this n) (marks_of body this ++ (Some this ∷ marks_of rest k)) (omega (arith, none_length n)) stand in
      let mj = has_rest marks first middle (marks_of body this) (Some this ∷ marks_of rest k) (ap (λ j. first + j) (marks_length body this)) ms in
      let r = list_met rest k end c works.2 jump.1 mj.1 (subst (λ j. rest_in marks j ≡ Some k) last stands) (meets_as _ _ k c c last refl meets) in
      -- the body's first place stands for what it is joined to, before the body is known to meet it
      let inner = first_rest body this first (has_front marks first (marks_of body this) _ ms) (ap (option_and_then listed) mj.0) works.1 in
      let m = test_meets e this kr (join body this) at end (λ s. refl) works.0 (has_front code.instrs at (expr_code e) _ has) tail.0 r.here inner in
      let j = jump_meets middle at this (test_cost u e) jump.0 m in
      let y = list_met body this first (u Basic + test_cost u e) works.1 (has_front code.instrs first (body_code first body) _ tail.1) (has_front marks first (marks_of body this) _ ms) (ap (option_and_then listed) mj.0) j in
      let most = section_most u (Loop b p e body rest) c in
      record {
        here = marked_rest at n this _ stand;
        meets = m;
        each = (
          (test_cost u e, omega arith, m, (λ to w. absurd (no_jump e at to (has_front code.instrs at (expr_code e) _ has) w))),
          each_append most (at + 1) first (replicate n None) _ (omega (arith, none_length n)) (each_none most (at + 1) n)
              (each_append most first middle (marks_of body this) _ (ap (λ j. first + j) (marks_length body this)) (each_more _ most first (marks_of body this) (omega arith) y.each)
              ((u Basic + test_cost u e, omega arith, j, (λ to w. jump_same middle at to this jump.0 w (marked_rest at n this _ stand))), each_more _ most end (marks_of rest k) (omega arith) r.each)),
        );
      }
  list_met (Turns b p n body rest) k at c works has stand stands meets = absurd works
