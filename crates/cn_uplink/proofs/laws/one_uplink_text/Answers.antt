use Rattle.std.proofs.Common.{◌∙◌, ℕ, sym, ap}
use Rattle.cn_uplink.specs.Link.{Link, course, first}
use Rattle.cn_uplink.specs.Text.{counts_of, uplink_text}
use Rattle.cn_uplink.proofs.Rounds.{finish-once}
use Rattle.cn_uplink.proofs.laws.one_uplink_text.Goals as goal

pub returns : goal.returns
returns c = λ headers log steps one other f g.
    let told : Link = course steps (first log) in
    let same = finish-once told f.n g.n f.end g.end f.finish g.finish in
    f.text_is
    ∙ ap (λ (n : ℕ). uplink_text headers (counts_of told n) f.end.host) same.0
    ∙ ap (λ (end : Link). uplink_text headers (counts_of told g.n) end.host) same.1
    ∙ sym g.text_is
