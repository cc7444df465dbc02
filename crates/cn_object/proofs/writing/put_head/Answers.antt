use Rattle.std.proofs.Common.{length, ◌∷◌, ◌++◌, ap, ◌∙◌}
use Rattle.std.specs.Int.{w16, to_le_bytes}
use Rattle.cn_object.specs.Spelling.{head_bytes}
use Rattle.cn_object.proofs.Lists.{five_put}
use Rattle.cn_object.proofs.writing.put_head.Goals as goal

pub returns : goal.returns
returns c =
    let o = c.args.out.now.items in
    five_put o _ _ _ _ _ c.extend_from_slice.new.self.items c.extend_from_slice-2.new.self.items c.push.new.self.items c.push-2.new.self.items c.extend_from_slice-3.new.self.items
    c.in_ok-extend_from_slice.ensures.items c.in_ok-extend_from_slice-2.ensures.items c.in_ok-push.ensures.items c.in_ok-push-2.ensures.items c.in_ok-extend_from_slice-3.ensures.items
    ∙ ap (λ x. o ++ (67 ∷ 78 ∷ 79 ∷ 49 ∷ (x ++ (length c.tasks.result.now ∷ c.events.result ∷ c.to_le_bytes-2.result)))) c.to_le_bytes.ensures
    ∙ ap (λ x. o ++ (67 ∷ 78 ∷ 79 ∷ 49 ∷ (to_le_bytes w16 c.args.words ++ (length c.tasks.result.now ∷ c.events.result ∷ x)))) c.to_le_bytes-2.ensures
    ∙ ap (λ n. o ++ head_bytes c.args.words n c.events.result c.len.result) (ap length c.tasks.ensures)
    ∙ ap (λ n. o ++ head_bytes c.args.words (length c.args.code.now.tasks) n c.len.result) c.events.ensures
    ∙ ap (λ n. o ++ head_bytes c.args.words (length c.args.code.now.tasks) (length c.args.code.now.versions) n) c.len.ensures
