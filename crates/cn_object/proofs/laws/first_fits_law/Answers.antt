use Rattle.std.proofs.Common.{length, refl, sym, subst}
use Rattle.cn_object.specs.Verified.{IsVerified}
use Rattle.cn_object.specs.Fitting.{Idle}
use Rattle.cn_object.proofs.laws.first_fits_law.Goals as goal

pub returns : goal.returns
returns c = λ o v same. record {
  verified = subst (λ n. IsVerified (length o.words) n o.code) (sym same) v;
  tasks = sym same;
  stands = Idle refl refl refl;
}
