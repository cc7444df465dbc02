use Rattle.std.proofs.Common.{length, subst}
use Rattle.std.specs.Prelude.{MatchOption}
use Rattle.cn_object.specs.declared.object.Object.{Object}
use Rattle.cn_object.specs.Spelling.{IsReadAs}
use Rattle.cn_object.specs.Verified.{IsVerified}
use Rattle.cn_object.specs.Verdict.{NoFile, Broken, CodeBreaks, IsVerifiedObject}
use Rattle.cn_object.proofs.Files.{as_is_file}
use Rattle.cn_object.proofs.verifying.verify.Goals as goal

pub returns-in_default : goal.returns-in_default
returns-in_default c =
    NoFile (subst (λ r. MatchOption r ((o : Object) → ¬ IsReadAs o c.args.bytes.now) (λ (o : Object). IsReadAs o c.args.bytes.now)) c.in_default.is c.in-Ok.ensures)

pub returns-in-Ok-Some : goal.returns-in-Ok-Some
returns-in-Ok-Some c =
    let o = c.in-Some.object in
    let file : IsReadAs o c.args.bytes.now = subst (λ r. MatchOption r ((o : Object) → ¬ IsReadAs o c.args.bytes.now) (λ (o : Object). IsReadAs o c.args.bytes.now)) c.in-Some.is c.in-Ok.ensures in
    Broken o file (subst (λ n. CodeBreaks n o.code c.in-Ok-Some.kind c.in-Ok-Some.place) c.len-words.ensures (rw c.in-Ok-Some.field-0-is at c.in-Ok-Some.ensures))

pub returns-in-Ok-None : goal.returns-in-Ok-None
returns-in-Ok-None c =
    let o = c.in-Some.object in
    let file : IsReadAs o c.args.bytes.now = subst (λ r. MatchOption r ((o : Object) → ¬ IsReadAs o c.args.bytes.now) (λ (o : Object). IsReadAs o c.args.bytes.now)) c.in-Some.is c.in-Ok.ensures in
    let verified : IsVerifiedObject o = subst (λ n. IsVerified n (length o.code.tasks) o.code) c.len-words.ensures (rw c.in-Ok-None.field-0-is at c.in-Ok-None.ensures) in
    record { file = as_is_file o c.args.bytes.now file verified; verified = verified }
