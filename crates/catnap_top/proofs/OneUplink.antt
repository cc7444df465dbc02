-- A life has one log, and a log and a link one text.
use Rattle.std.proofs.Common.{◌≡◌, ℕ, List, sym, ap, subst}
use Rattle.board_core.specs.Reached.{model_start}
use Rattle.cat_program.specs.declared.headers.Event.{Event}
use Rattle.cat_program.specs.declared.outs.LogEntry.{LogEntry}
use Rattle.cn_uplink.specs.Log.{log_of}
use Rattle.cn_uplink.specs.Text.{IsUplinkText}
use Rattle.cn_uplink.specs.declared.link_step.LinkStep.{LinkStep}
use Rattle.recovery.specs.Past.{past_of}
use Rattle.catnap_top.specs.declared.files.ReplayFiles.{ReplayFiles}
use Rattle.catnap_top.specs.Alike.{Agree, AreSameLived}
use Rattle.catnap_top.specs.Answer.{Answer}
use Rattle.catnap_top.specs.Lives.{Life, Lived, status_of}
use Rattle.catnap_top.specs.Look.{Look, Then}
use Rattle.catnap_top.specs.Replay.{living}
use Rattle.catnap_top.specs.Uplink.{links_in, log_in, sending, uplink_in}
use Rattle.catnap_top.proofs.Looks.{finding_agree, found_agree, then_agree}

-- a log and a link have one text
abbrev pub OneUplinkText : Type 0
OneUplinkText =
    (headers : List Event) (log : List LogEntry) (steps : List LinkStep) (one other : List ℕ) → IsUplinkText headers log steps one → IsUplinkText headers log steps other → one ≡ other

text_agrees : OneUplinkText → (a b : Lived) (s t : List LinkStep) → AreSameLived a b → s ≡ t → Agree (λ (x y : List ℕ). x ≡ y) (uplink_in a s) (uplink_in b t)
text_agrees one a b s t same steps =
    let headers : a.files.program.headers ≡ b.files.program.headers = same.files.program.same.headers in
    let logs : log_in a ≡ log_in b = ap (λ (life : Life). log_of (past_of life.layout (model_start life.origin) life.state)) same.life in
    finding_agree (λ (x y : List ℕ). x ≡ y) (IsUplinkText a.files.program.headers (log_in a) s) (IsUplinkText b.files.program.headers (log_in b) t)
    (λ x y h k.
    one a.files.program.headers (log_in a) s x y h
    (subst (λ (events : List Event). IsUplinkText events (log_in a) s y) (sym headers)
    (subst (λ (log : List LogEntry). IsUplinkText b.files.program.headers log s y) (sym logs)
    (subst (λ (l : List LinkStep). IsUplinkText b.files.program.headers (log_in b) l y) (sym steps) k))))

-- looks at files that tell the same lives, and then what comes of a link
pub uplinks_agree : OneUplinkText → (told : ReplayFiles → ReplayFiles → Type 0) (files : Look ReplayFiles) (link : List ℕ) → Agree told files files
    → ((x y : ReplayFiles) → told x y → Agree AreSameLived (living x) (living y))
    → Agree (λ (v w : List LinkStep). v ≡ w) (links_in link) (links_in link)
    → Agree (λ (a b : Answer). a ≡ b) (Then files (λ x. Then (links_in link) (λ steps. sending x steps))) (Then files (λ x. Then (links_in link) (λ steps. sending x steps)))
uplinks_agree one told files link same lives links =
    then_agree told (λ a b. a ≡ b) _ _ _ _ same
    (λ x y both. then_agree (λ (v w : List LinkStep). v ≡ w) (λ a b. a ≡ b) _ _ _ _ links
    (λ v w steps. then_agree AreSameLived (λ a b. a ≡ b) _ _ _ _ (lives x y both)
    (λ k m lived. then_agree (λ (p q : List ℕ). p ≡ q) (λ a b. a ≡ b) _ _ _ _ (text_agrees one k m v w lived steps)
    (λ p q texts. found_agree (λ a b. a ≡ b) _ _ (λ i. record { status = status_of (lived.life i).end; text = texts i })))))
