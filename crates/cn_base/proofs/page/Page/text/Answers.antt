use Rattle.std.proofs.Common.{◌≡◌, [], ◌++◌, sym, subst, rules}
use Rattle.std.specs.Io.KnownBytes.{append_known}
use Rattle.cn_base.specs.Pages.{IsHeld}
use Rattle.cn_base.specs.PageSums.{held_more, held_none, adds_past}
use Rattle.cn_base.proofs.page.Page.text.Goals as goal

pub returns-then-is_ok-2-clause-text : goal.returns-then-is_ok-2-clause-text
returns-then-is_ok-2-clause-text g c =
    let page = c.args.self.now in
    let before = g.K.Sink.written page.sink.now in
    let now = g.K.Sink.written c.put.new.sink in
    let whole : now ≡ append_known before page.held.items = search rules in
    let held : c.try_extend_from_slice-2.new.self.items ≡ c.args.bytes.now = search rules in
    subst (λ h. IsHeld before now (page.held.items ++ c.args.bytes.now) h) (sym held)
    (held_more before now page.held.items [] c.args.bytes.now (held_none before now page.held.items whole))

pub returns-clause-text : goal.returns-clause-text
returns-clause-text g c =
    let page = c.args.self.now in
    let before = g.K.Sink.written page.sink.now in
    let whole : g.K.Sink.written c.put.new.sink ≡ append_known before page.held.items = search rules in
    let none : c.try_extend_from_slice-2.new.self.items ≡ [] = search rules in
    adds_past before (g.K.Sink.written c.put.new.sink) (g.K.Sink.written c.put-2.new.sink) page.held.items c.try_extend_from_slice-2.new.self.items c.args.bytes.now
    c.put-2.result whole none c.put-2.ensures.text
