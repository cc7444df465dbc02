-- Runs from a saved image, as a fresh one is too: no arrival that comes at or after a tick is done by then, and the log goes on to tell what it has told.
use Rattle.std.proofs.Common.{◌≡◌, ℕ, zero, suc, ◌+◌, ◌<◌, ◌≤◌, inl, inr, List, [], ◌∷◌, ◌++◌, length, take, sym, ap, subst, ◌∙◌, arith, Some, length-append}
use Rattle.std.specs.Prelude.{slice_get, slice_index}
use Rattle.std.proofs.lemmas.Bool.{cases_lt}
use Rattle.std.proofs.lemmas.List.{take_all}
use Rattle.std.proofs.Math.Seq.{take-append_seam}
use Rattle.nv_memory.specs.declared.device.Device.{Device}
use Rattle.nv_memory.specs.declared.entry.Entry.{Entry}
use Rattle.nv_memory.specs.Board.{State, image_by}
use Rattle.cat_program.specs.declared.outs.LogEntry.{LogEntry}
use Rattle.cat_program.specs.declared.outs.LogEntry.TheVariants.{Ran}
use Rattle.cat_program.specs.Checked.{Checked}
use Rattle.event_arrivals.specs.Arrivals.{arrival_at}
use Rattle.event_arrivals.specs.Counts.{came}
use Rattle.event_arrivals.specs.declared.arrival.Arrival.{Arrival}
use Rattle.cost_bounds.specs.BoundsValue.{BoundsValue}
use Rattle.logged_runs.specs.Reference.{version_for}
use Rattle.logged_runs.specs.Own.{IsPrefixOf}
use Rattle.logged_runs.specs.Laws.{last_start_of}
use Rattle.image_meaning.specs.Standing.{StandsFor}
use Rattle.cn_scheduler.specs.declared.plan.Plan.{Plan}
use Rattle.cn_scheduler.specs.Point.{Point}
use Rattle.cn_scheduler.specs.Chunks.{Link, IsLawful, point_after, entries_of}
use Rattle.cn_scheduler.specs.Belongs.{IsPlanOf}
use Rattle.lawful_timeline.specs.Working.{setting_of}
use Rattle.lawful_timeline.specs.Claims.{Begins, EachPoint, HoldsThroughout, image_at}
use Rattle.lawful_timeline.specs.Points.{IsPastJobs}
use Rattle.lawful_timeline.specs.Starting.{BeginsSaved, StartsBelong}
use Rattle.calm_timeline.specs.Calm.{board_after}
use Rattle.calm_timeline.specs.Numbers.{IsPlanned}
use Rattle.recovery.specs.Past.{Past}
use Rattle.timely_commits.specs.Timely.{past_of, FreshRunsAreOnTime, ResumedRunsAreOnTime, IsLoggedBy, IsTimely, IsToldBy}
use Rattle.timely_commits.proofs.Told.{LowerLaws, declared, entries_on, first_each, front_lawful, last_of, point_on, rest_each, timely, whole}

pub record FreshLaws : Type 0 where
  pub lower : LowerLaws
  pub starts : (program : Checked) (plan : Plan) → StartsBelong program plan

-- ---- entries go on

kept_on : (xs rest : List LogEntry) (i : ℕ) (e : LogEntry) → slice_get xs i ≡ Some e → slice_get (xs ++ rest) i ≡ Some e
kept_on [] rest i e is = cc
kept_on (x ∷ xs) rest zero e is = is
kept_on (x ∷ xs) rest (suc i) e is = kept_on xs rest i e is

-- ---- the end of a run

module _ (program : Checked) (plan : Plan) (first : Point) where
  -- the image after some chunks is that after their entries
  image_after_front : (front : List Link) (links after : List Link) → links ≡ front ++ after → HoldsThroughout program plan first front →
      image_at first links (length (entries_of front)) ≡ (board_after first front).image
  image_after_front front links after is holds =
      let parts : entries_of links ≡ entries_of front ++ entries_of after = ap entries_of is ∙ entries_on front after in
      let taken : take (length (entries_of front)) (entries_of links) ≡ entries_of front =
      ap (λ (es : List Entry). take (length (entries_of front)) es) parts ∙ take-append_seam (entries_of front) (entries_of after) in
      ap (λ (es : List Entry). image_by es first.board.image) taken ∙ sym holds.image

  front_short : (front links after : List Link) → links ≡ front ++ after → length (entries_of front) ≤ length (entries_of links)
  front_short front links after is =
      let parts : length (entries_of links) ≡ length (entries_of front ++ entries_of after) = ap (λ (ls : List Link). length (entries_of ls)) is ∙ ap (λ (es : List Entry). length es) (entries_on front after) in
      omega (arith, length-append (entries_of front) (entries_of after))

  last_image_is : (links : List Link) → HoldsThroughout program plan first links → image_at first links (length (entries_of links)) ≡ (board_after first links).image
  last_image_is links holds = ap (λ (es : List Entry). image_by es first.board.image) (take_all (length (entries_of links)) (entries_of links) (omega arith)) ∙ sym holds.image

  -- what the log tells after some chunks it tells after all
  logged_on : (past : Past) (front links after : List Link) (event k d : ℕ) (arrival : Arrival) → links ≡ front ++ after → HoldsThroughout program plan first front → HoldsThroughout program plan first links →
      IsLoggedBy program plan past (board_after first front).image event k d arrival → IsLoggedBy program plan past (board_after first links).image event k d arrival
  logged_on past front links after event k d arrival is begun holds logged =
      let short = front_short front links after is in
      let end = holds.images (length (entries_of links)) (omega arith) in
      let here : StandsFor plan.layout program (image_at first links (length (entries_of front))) logged.moment =
      subst (λ (image : List ℕ). StandsFor plan.layout program image logged.moment) (sym (image_after_front front links after is begun)) logged.stands in
      let earlier = holds.earlier (length (entries_of front)) (length (entries_of links)) logged.moment end.0 short (omega arith) here end.1 in
      let longer : IsPrefixOf logged.moment.entries end.0.entries = earlier.entries in
      let entry : slice_get end.0.entries logged.place ≡ Some (Ran event (version_for (setting_of program plan) event arrival) logged.steps logged.begun k) =
      subst (λ (es : List LogEntry). slice_get es logged.place ≡ Some (Ran event (version_for (setting_of program plan) event arrival) logged.steps logged.begun k)) (sym longer.1)
      (kept_on logged.moment.entries longer.0 logged.place (Ran event (version_for (setting_of program plan) event arrival) logged.steps logged.begun k) logged.entry) in
      record {
        moment = end.0;
        stands = subst (λ (image : List ℕ). StandsFor plan.layout program image end.0) (last_image_is links holds) end.1;
        place = logged.place;
        steps = logged.steps;
        begun = logged.begun;
        entry = entry;
        only = λ i v n t at. end.3.once i logged.place event k v n t (version_for (setting_of program plan) event arrival) logged.steps logged.begun at entry;
        in_time = logged.in_time;
      }

-- ---- what comes is not done

module _ (laws : FreshLaws) (program : Checked) (device : Device) (b : BoundsValue) (plan : Plan) (planned : IsPlanned program device b plan) where
  -- an arrival that comes at or after a tick is not among those that came before it
  not_come : (event k s : ℕ) (arrival : Arrival) → arrival_at plan.queue.arrivals event k ≡ Some arrival → s ≤ arrival.tick → came plan.queue.arrivals event s ≤ k
  not_come event k s arrival at from =
      elim (cases_lt k (came plan.queue.arrivals event s)) [
        | inl less ↦
            let has = (laws.lower.counts plan.queue.arrivals planned.arrivals).has_come event k s less in
            let same : has.0 ≡ arrival = let a = has.1 in cc in
            let tick : has.0.tick ≡ arrival.tick = ap (λ (x : Arrival). x.tick) same in
            let before = has.2 in
            omega arith
        | inr past ↦ past
      ]

  not_done : (pt : Point) → IsPlanOf program plan → IsPastJobs program plan pt → (event k : ℕ) (arrival : Arrival) → event < length program.events → arrival_at plan.queue.arrivals event k ≡ Some arrival →
      pt.board.tick ≤ arrival.tick → slice_index pt.work.done event ≤ k
  not_done pt plan_is past event k arrival within at from =
      let events = plan_is.layout.events in
      elim past.before [
        | inl before ↦
            let counts = past.works.done event (omega arith) in
            let come = (laws.lower.arrivals (setting_of program plan)).come past.moment event planned.arrivals past.works.own in
            let later = (laws.lower.counts plan.queue.arrivals planned.arrivals).later event (last_start_of past.moment.entries + 1) pt.board.tick (omega arith) in
            let none = not_come event k pt.board.tick arrival at from in
            omega arith
        | inr none ↦ let zero = none event (omega arith) in omega arith
      ]

pub resumed_runs : FreshLaws → ResumedRunsAreOnTime
resumed_runs laws program device b plan origin first links planned set_up starts board lawful before after chunk row p q z is fits calm =
    record {
      meets = its.meets;
      told = told;
      logged = λ event k arrival at from till. at_end event k (arrival.tick + slice_index plan.queue.deadlines event) arrival (told event k arrival at from till);
    }
  where
    saved : BeginsSaved program plan first
    saved = (laws.starts program plan).saved first starts

    begins : Begins program plan first
    begins = ((laws.starts program plan).saved first starts).begins

    its : IsTimely program plan (past_of plan first links) row (point_after first before) (chunk ∷ after) z
    its = timely laws.lower program device b plan origin first links planned set_up begins saved.few board lawful before after chunk row p q z is fits calm

    its_lawful : IsLawful plan first (before ++ chunk ∷ after)
    its_lawful = subst (λ (ls : List Link). IsLawful plan first ls) is lawful

    past : IsPastJobs program plan (point_after first before)
    past =
        first_each (IsPastJobs program plan) (point_after first before) (chunk ∷ after)
        (rest_each (IsPastJobs program plan) plan before chunk after first its_lawful
        (subst (λ (ls : List Link). EachPoint (IsPastJobs program plan) first ls) is ((laws.lower.points program plan).past first links set_up ((laws.starts program plan).saved first starts).begins board.some_ticks ((laws.starts program plan).saved first starts).began lawful)))

    told : (event k : ℕ) (arrival : Arrival) → arrival_at plan.queue.arrivals event k ≡ Some arrival → (point_after first before).board.tick ≤ arrival.tick →
        arrival.tick + slice_index plan.queue.deadlines event ≤ z → IsToldBy program plan (past_of plan first links) (chunk ∷ after) event k (arrival.tick + slice_index plan.queue.deadlines event) arrival
    told event k arrival at from till =
        its.told event k arrival at from
        (not_done laws program device b plan planned (point_after first before) set_up.plan_is past event k arrival (declared program plan set_up.plan_is event k arrival at) at from) till

    at_end : (event k d : ℕ) (arrival : Arrival) → IsToldBy program plan (past_of plan first links) (chunk ∷ after) event k d arrival →
        IsLoggedBy program plan (past_of plan first links) (board_after (point_after first before) (chunk ∷ after)).image event k d arrival
    at_end event k d arrival by =
        let front = before ++ by.served.before ++ by.served.job ∷ [] in
        let holds = (laws.lower.hold program plan).holds first links set_up begins lawful in
        let front_holds : HoldsThroughout program plan first (before ++ by.served.before ++ by.served.job ∷ []) =
        (laws.lower.hold program plan).holds first (before ++ by.served.before ++ by.served.job ∷ []) set_up begins
        (front_lawful plan (before ++ by.served.before ++ by.served.job ∷ []) by.served.after first (subst (λ (ls : List Link). IsLawful plan first ls) (whole links before chunk after is by.served) lawful)) in
        let last : board_after first (before ++ by.served.before ++ by.served.job ∷ []) ≡ by.served.job.after.board = ap (λ (pt : Point). pt.board) (last_of (before ++ by.served.before) by.served.job first) in
        let logged : IsLoggedBy program plan (past_of plan first links) (board_after first (before ++ by.served.before ++ by.served.job ∷ [])).image event k d arrival =
        subst (λ (s : State). IsLoggedBy program plan (past_of plan first links) s.image event k d arrival) (sym last) by.logged in
        let end : board_after first links ≡ board_after (point_after first before) (chunk ∷ after) = ap (λ (ls : List Link). board_after first ls) is ∙ ap (λ (pt : Point). pt.board) (point_on before (chunk ∷ after) first) in
        subst (λ (s : State). IsLoggedBy program plan (past_of plan first links) s.image event k d arrival) end
        (logged_on program plan first (past_of plan first links) (before ++ by.served.before ++ by.served.job ∷ []) links by.served.after event k d arrival (whole links before chunk after is by.served) front_holds holds logged)

pub fresh_runs : FreshLaws → FreshRunsAreOnTime
fresh_runs laws program device b plan origin first links planned set_up fresh board lawful =
    resumed_runs laws program device b plan origin first links planned set_up ((laws.starts program plan).fresh first fresh) board lawful
