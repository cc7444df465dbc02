-- A jump is written once the place to which it goes is known.
use Rattle.std.proofs.Common.{◌≡◌, ℕ, ◌+◌, List, [], ◌∷◌, ◌++◌, length, sym, ap, ◌∙◌, arith, append_assoc, append-nil, length-append}
use Rattle.std.specs.Prelude.{slice_set, pos}
use Rattle.std.proofs.Math.Seq.{set-append_seam}
use Rattle.std.proofs.Math.ListN.{length-set}
use Rattle.cat_program.specs.declared.syntax.Expr.{Expr}
use Rattle.cat_program.specs.Body.{Body, Empty, When, Choice, Loop, Turns}
use Rattle.cat_program.specs.Places.{expr_size, body_size}
use Rattle.cat_machine.specs.declared.instr.Instr.{Instr}
use Rattle.cat_machine.specs.declared.instr.Instr.TheVariants as i
use Rattle.cat_machine.specs.Code.{expr_code, body_code}
use Rattle.cat_machine.specs.LaidOut.{CodeHasSizes}

abbrev Code : Type 0
Code = List Instr

pub patch_when : CodeHasSizes → (base c1 c2 c3 : Code) (e : Expr) (on : Body) (x : Instr) (n end : ℕ) → c1 ≡ base ++ expr_code e → n ≡ length c1 → c2 ≡ c1 ++ x ∷ [] → c3 ≡ c2 ++ body_code (length c2) on → end ≡ length c3 → slice_set c3 n (i.JumpZero end) ≡ base ++ body_code (length base) (When 0 0 e on Empty)
patch_when sizes base c1 c2 c3 e on x n end e1 n_is e2 e3 end_is =
    let first = length base + expr_size e + 1 in
    let last = first + body_size on in
    let l1 : length c1 ≡ length base + expr_size e = omega (arith, ap length e1, length-append base (expr_code e), sizes.expr e) in
    let l2 : length c2 ≡ first = omega (arith, ap length e2, length-append c1 (x ∷ [])) in
    let l3 : end ≡ last = omega (arith, ap length e3, length-append c2 (body_code (length c2) on), sizes.body on (length c2)) in
    let body = body_code first on in
    let flat : c3 ≡ c1 ++ x ∷ body =
    e3 ∙ ap (λ j. c2 ++ body_code j on) l2 ∙ ap (λ l. l ++ body) e2 ∙ append_assoc c1 (x ∷ []) body in
    ap (λ l. slice_set l n (i.JumpZero end)) flat
    ∙ ap (λ j. slice_set (c1 ++ x ∷ body) j (i.JumpZero end)) n_is
    ∙ set-append_seam c1 x body (i.JumpZero end)
    ∙ ap (λ j. c1 ++ i.JumpZero j ∷ body) l3
    ∙ ap (λ l. l ++ i.JumpZero last ∷ body) e1
    ∙ append_assoc base (expr_code e) (i.JumpZero last ∷ body)
    ∙ ap (λ l. base ++ (expr_code e ++ i.JumpZero last ∷ l)) (sym (append-nil body))

pub patch_choice : CodeHasSizes → (base c1 c2 c3 c4 c5 c6 : Code) (e : Expr) (on off : Body) (x y : Instr) (n1 n2 second end : ℕ) → c1 ≡ base ++ expr_code e → n1 ≡ length c1 → c2 ≡ c1 ++ x ∷ [] → c3 ≡ c2 ++ body_code (length c2) on → n2 ≡ length c3 → c4 ≡ c3 ++ y ∷ [] → second ≡ length c4 → c5 ≡ slice_set c4 n1 (i.JumpZero second) → c6 ≡ c5 ++ body_code (length c5) off → end ≡ length c6 → slice_set c6 n2 (i.Jump end) ≡ base ++ body_code (length base) (Choice 0 0 e on off Empty)
patch_choice sizes base c1 c2 c3 c4 c5 c6 e on off x y n1 n2 second end e1 n1_is e2 e3 n2_is e4 second_is e5 e6 end_is =
    let first = length base + expr_size e + 1 in
    let middle = first + body_size on + 1 in
    let last = middle + body_size off in
    let l1 : length c1 ≡ length base + expr_size e = omega (arith, ap length e1, length-append base (expr_code e), sizes.expr e) in
    let l2 : length c2 ≡ first = omega (arith, ap length e2, length-append c1 (x ∷ [])) in
    let l3 : length c3 ≡ first + body_size on = omega (arith, ap length e3, length-append c2 (body_code (length c2) on), sizes.body on (length c2)) in
    let l4 : length c4 ≡ middle = omega (arith, ap length e4, length-append c3 (y ∷ [])) in
    let jz = i.JumpZero second in
    let a = body_code first on in
    let flat4 : c4 ≡ c1 ++ x ∷ (a ++ y ∷ []) =
    e4 ∙ ap (λ l. l ++ y ∷ []) (e3 ∙ ap (λ j. c2 ++ body_code j on) l2 ∙ ap (λ l. l ++ a) e2 ∙ append_assoc c1 (x ∷ []) a) ∙ append_assoc c1 (x ∷ a) (y ∷ []) in
    let flat5 : c5 ≡ c1 ++ jz ∷ (a ++ y ∷ []) =
    e5 ∙ ap (λ l. slice_set l n1 jz) flat4 ∙ ap (λ j. slice_set (c1 ++ x ∷ (a ++ y ∷ [])) j jz) n1_is ∙ set-append_seam c1 x (a ++ y ∷ []) jz in
    let l5 : length c5 ≡ middle = omega (arith, ap length flat5, length-append c1 (jz ∷ (a ++ y ∷ [])), length-append a (y ∷ []), sizes.body on first) in
    let b = body_code middle off in
    let front = c1 ++ jz ∷ a in
    let flat6 : c6 ≡ front ++ y ∷ b =
    e6 ∙ ap (λ j. c5 ++ body_code j off) l5 ∙ ap (λ l. l ++ b) (flat5 ∙ sym (append_assoc c1 (jz ∷ a) (y ∷ []))) ∙ append_assoc front (y ∷ []) b in
    let l6 : end ≡ last = omega (arith, ap length e6, length-append c5 (body_code (length c5) off), sizes.body off (length c5)) in
    let at2 : n2 ≡ length front = omega (arith, length-append c1 (jz ∷ a), sizes.body on first) in
    let second' : second ≡ middle = second_is ∙ l4 in
    ap (λ l. slice_set l n2 (i.Jump end)) flat6
    ∙ ap (λ j. slice_set (front ++ y ∷ b) j (i.Jump end)) at2
    ∙ set-append_seam front y b (i.Jump end)
    ∙ append_assoc c1 (jz ∷ a) (i.Jump end ∷ b)
    ∙ ap (λ j. c1 ++ i.JumpZero j ∷ (a ++ i.Jump end ∷ b)) second'
    ∙ ap (λ j. c1 ++ i.JumpZero middle ∷ (a ++ i.Jump j ∷ b)) l6
    ∙ ap (λ l. l ++ i.JumpZero middle ∷ (a ++ i.Jump last ∷ b)) e1
    ∙ append_assoc base (expr_code e) (i.JumpZero middle ∷ (a ++ i.Jump last ∷ b))
    ∙ ap (λ l. base ++ (expr_code e ++ i.JumpZero middle ∷ (a ++ i.Jump last ∷ l))) (sym (append-nil b))

pub patch_loop : CodeHasSizes → (base c1 c2 c3 c4 : Code) (e : Expr) (body : Body) (x : Instr) (n0 n1 end : ℕ) → n0 ≡ length base → c1 ≡ base ++ expr_code e → n1 ≡ length c1 → c2 ≡ c1 ++ x ∷ [] → c3 ≡ c2 ++ body_code (length c2) body → c4 ≡ c3 ++ i.Jump n0 ∷ [] → end ≡ length c4 → slice_set c4 n1 (i.JumpZero end) ≡ base ++ body_code (length base) (Loop 0 0 e body Empty)
patch_loop sizes base c1 c2 c3 c4 e body x n0 n1 end n0_is e1 n1_is e2 e3 e4 end_is =
    let first = length base + expr_size e + 1 in
    let last = first + body_size body + 1 in
    let l1 : length c1 ≡ length base + expr_size e = omega (arith, ap length e1, length-append base (expr_code e), sizes.expr e) in
    let l2 : length c2 ≡ first = omega (arith, ap length e2, length-append c1 (x ∷ [])) in
    let l3 : length c3 ≡ first + body_size body = omega (arith, ap length e3, length-append c2 (body_code (length c2) body), sizes.body body (length c2)) in
    let l4 : end ≡ last = omega (arith, ap length e4, length-append c3 (i.Jump n0 ∷ [])) in
    let a = body_code first body in
    let flat : c4 ≡ c1 ++ x ∷ (a ++ i.Jump n0 ∷ []) =
    e4 ∙ ap (λ l. l ++ i.Jump n0 ∷ []) (e3 ∙ ap (λ j. c2 ++ body_code j body) l2 ∙ ap (λ l. l ++ a) e2 ∙ append_assoc c1 (x ∷ []) a) ∙ append_assoc c1 (x ∷ a) (i.Jump n0 ∷ []) in
    ap (λ l. slice_set l n1 (i.JumpZero end)) flat
    ∙ ap (λ j. slice_set (c1 ++ x ∷ (a ++ i.Jump n0 ∷ [])) j (i.JumpZero end)) n1_is
    ∙ set-append_seam c1 x (a ++ i.Jump n0 ∷ []) (i.JumpZero end)
    ∙ ap (λ j. c1 ++ i.JumpZero j ∷ (a ++ i.Jump n0 ∷ [])) l4
    ∙ ap (λ j. c1 ++ i.JumpZero last ∷ (a ++ i.Jump j ∷ [])) n0_is
    ∙ ap (λ l. l ++ i.JumpZero last ∷ (a ++ i.Jump (length base) ∷ [])) e1
    ∙ append_assoc base (expr_code e) (i.JumpZero last ∷ (a ++ i.Jump (length base) ∷ []))

pub patch_turns : CodeHasSizes → (base c1 c2 c3 c4 : Code) (count : ℕ) (body : Body) (x : Instr) (n1 end : ℕ) → c1 ≡ base ++ i.Push (pos count) ∷ [] → n1 ≡ length c1 → c2 ≡ c1 ++ x ∷ [] → c3 ≡ c2 ++ body_code (length c2) body → c4 ≡ c3 ++ i.Jump n1 ∷ [] → end ≡ length c4 → slice_set c4 n1 (i.Turn end) ≡ base ++ body_code (length base) (Turns 0 0 count body Empty)
patch_turns sizes base c1 c2 c3 c4 count body x n1 end e1 n1_is e2 e3 e4 end_is =
    let push = i.Push (pos count) in
    let first = length base + 2 in
    let last = first + body_size body + 1 in
    let l1 : length c1 ≡ length base + 1 = omega (arith, ap length e1, length-append base (push ∷ [])) in
    let l2 : length c2 ≡ first = omega (arith, ap length e2, length-append c1 (x ∷ [])) in
    let l3 : length c3 ≡ first + body_size body = omega (arith, ap length e3, length-append c2 (body_code (length c2) body), sizes.body body (length c2)) in
    let l4 : end ≡ last = omega (arith, ap length e4, length-append c3 (i.Jump n1 ∷ [])) in
    let a = body_code first body in
    let flat : c4 ≡ c1 ++ x ∷ (a ++ i.Jump n1 ∷ []) =
    e4 ∙ ap (λ l. l ++ i.Jump n1 ∷ []) (e3 ∙ ap (λ j. c2 ++ body_code j body) l2 ∙ ap (λ l. l ++ a) e2 ∙ append_assoc c1 (x ∷ []) a) ∙ append_assoc c1 (x ∷ a) (i.Jump n1 ∷ []) in
    ap (λ l. slice_set l n1 (i.Turn end)) flat
    ∙ ap (λ j. slice_set (c1 ++ x ∷ (a ++ i.Jump n1 ∷ [])) j (i.Turn end)) n1_is
    ∙ set-append_seam c1 x (a ++ i.Jump n1 ∷ []) (i.Turn end)
    ∙ ap (λ j. c1 ++ i.Turn j ∷ (a ++ i.Jump n1 ∷ [])) l4
    ∙ ap (λ j. c1 ++ i.Turn last ∷ (a ++ i.Jump j ∷ [])) (n1_is ∙ l1)
    ∙ ap (λ l. l ++ i.Turn last ∷ (a ++ i.Jump (length base + 1) ∷ [])) e1
    ∙ append_assoc base (push ∷ []) (i.Turn last ∷ (a ++ i.Jump (length base + 1) ∷ []))

-- lengths on the way

pub after_put : (c d : Code) (x : Instr) → d ≡ c ++ x ∷ [] → length d ≡ length c + 1
after_put c d x e = omega (arith, ap length e, length-append c (x ∷ []))

pub after_expr : CodeHasSizes → (c d : Code) (e : Expr) → d ≡ c ++ expr_code e → length d ≡ length c + expr_size e
after_expr sizes c d e w = omega (arith, ap length w, length-append c (expr_code e), sizes.expr e)

pub after_block : CodeHasSizes → (c d : Code) (on : Body) → d ≡ c ++ body_code (length c) on → length d ≡ length c + body_size on
after_block sizes c d on w = omega (arith, ap length w, length-append c (body_code (length c) on), sizes.body on (length c))

pub after_set : (c : Code) (n : ℕ) (x : Instr) → length (slice_set c n x) ≡ length c
after_set c n x = length-set c n x
