-- With the same versions at all ticks, the run is the reference run of these versions.
use Rattle.std.proofs.Common.{ℕ, List, [], ◌∷◌, reverse}
use Rattle.cat_program.specs.Checked.{Checked}
use Rattle.event_arrivals.specs.Arrivals.{Lists}
use Rattle.reference_run.specs.declared.schedule.Item.{Item}
use Rattle.reference_run.specs.Reference.{Moment, setting_of}
use Rattle.reference_run.specs.Reference as fixed
use Rattle.logged_runs.specs.Reference.{Setting, IsRun}
use Rattle.logged_runs.specs.Laws.{AgreesWithOne}

module _ (program : Checked) (versions : List ℕ) (arrivals : Lists) where
  abbrev setting : Setting
  setting = record { program = program; versions = λ tick. versions; arrivals = arrivals }

  there : (items : List Item) (m : Moment) → IsRun setting items m → fixed.IsRun (setting_of program versions arrivals) items m
  there [] m run = run
  there (item ∷ earlier) m run =
      let leads = run.2 in (
        run.0,
        there earlier run.0 run.1,
        record {
          begun = leads.begun;
          arrival = leads.arrival;
          steps = leads.steps;
          may = record { in_order = leads.may.in_order; next = leads.may.next; version = leads.may.version };
          after_is = leads.after_is;
        },
      )

  back : (items : List Item) (m : Moment) → fixed.IsRun (setting_of program versions arrivals) items m → IsRun setting items m
  back [] m run = run
  back (item ∷ earlier) m run =
      let leads = run.2 in (
        run.0,
        back earlier run.0 run.1,
        record {
          begun = leads.begun;
          arrival = leads.arrival;
          steps = leads.steps;
          may = record { in_order = leads.may.in_order; next = leads.may.next; version = leads.may.version };
          after_is = leads.after_is;
        },
      )

  pub agrees : AgreesWithOne program versions arrivals
  agrees = record {
    same = λ schedule end. (
      (λ is. record { begun = is.begun; items = there (reverse schedule.items) is.begun is.items; total = is.total }),
      (λ is. record { begun = is.begun; items = back (reverse schedule.items) is.begun is.items; total = is.total }),
    );
  }
