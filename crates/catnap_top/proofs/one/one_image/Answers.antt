use Rattle.catnap_top.proofs.OneImage.{one_image}
use Rattle.catnap_top.proofs.one.one_image.Goals as goal

pub returns : goal.returns
returns c = one_image c.layouts_are_numbers.ensures c.one_verdict.ensures.fit c.one_verdict.ensures.fault c.same_images_law.ensures.fit c.same_images_law.ensures.fault
