use Rattle.same_runs.proofs.Given.{SameSteps, Likeness, SamePlaces, OwnLists}
use Rattle.same_runs.proofs.Images.{Laws, same_fit, same_fault, same_refused}
use Rattle.same_runs.proofs.laws.same_images_law.Goals as goal

pub returns-clause-fit : goal.returns-clause-fit
returns-clause-fit c =
    let steps : SameSteps = record { first = c.same_steps_law.ensures.first; step = c.same_steps_law.ensures.step; handled = c.same_steps_law.ensures.handled } in
    let likeness : Likeness = record { turned = c.alike_law.ensures.turned; onward = c.alike_law.ensures.onward } in
    let places : SamePlaces = record { place = c.same_places_law.ensures.place; rests = c.same_places_law.ensures.rests } in
    let lists : OwnLists = record { place = c.own_lists_law.ensures.place; first = c.own_lists_law.ensures.first; step = c.own_lists_law.ensures.step; one = c.own_lists_law.ensures.one } in
    let laws : Laws = record { steps = steps; likeness = likeness; places = places; lists = lists } in
    same_fit laws

pub returns-clause-fault : goal.returns-clause-fault
returns-clause-fault c =
    let steps : SameSteps = record { first = c.same_steps_law.ensures.first; step = c.same_steps_law.ensures.step; handled = c.same_steps_law.ensures.handled } in
    let likeness : Likeness = record { turned = c.alike_law.ensures.turned; onward = c.alike_law.ensures.onward } in
    let places : SamePlaces = record { place = c.same_places_law.ensures.place; rests = c.same_places_law.ensures.rests } in
    let lists : OwnLists = record { place = c.own_lists_law.ensures.place; first = c.own_lists_law.ensures.first; step = c.own_lists_law.ensures.step; one = c.own_lists_law.ensures.one } in
    let laws : Laws = record { steps = steps; likeness = likeness; places = places; lists = lists } in
    same_fault laws

pub returns-clause-refused : goal.returns-clause-refused
returns-clause-refused c =
    let steps : SameSteps = record { first = c.same_steps_law.ensures.first; step = c.same_steps_law.ensures.step; handled = c.same_steps_law.ensures.handled } in
    let likeness : Likeness = record { turned = c.alike_law.ensures.turned; onward = c.alike_law.ensures.onward } in
    let places : SamePlaces = record { place = c.same_places_law.ensures.place; rests = c.same_places_law.ensures.rests } in
    let lists : OwnLists = record { place = c.own_lists_law.ensures.place; first = c.own_lists_law.ensures.first; step = c.own_lists_law.ensures.step; one = c.own_lists_law.ensures.one } in
    let laws : Laws = record { steps = steps; likeness = likeness; places = places; lists = lists } in
    same_refused laws
