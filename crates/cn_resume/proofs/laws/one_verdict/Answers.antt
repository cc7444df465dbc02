use Rattle.cn_resume.proofs.Verdict.{RunsAreOne, fit_has_none, one_fault}
use Rattle.cn_resume.proofs.laws.one_verdict.Goals as goal

pub returns : goal.returns
returns c =
    let runs : RunsAreOne = record { end = c.one_reference.ensures.end; fault = c.one_reference.ensures.fault; either = c.one_reference.ensures.either } in
    record { fit = λ p file kind at. fit_has_none runs p file kind at; fault = λ p file k j at by. one_fault runs p file k j at by }
