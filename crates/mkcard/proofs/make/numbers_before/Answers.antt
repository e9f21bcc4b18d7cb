-- A number ends at each byte below 128 before the place.
use Rattle.std.proofs.Common.{◌∙◌, rules, tests, ltb}
use Rattle.std.proofs.lemmas.Iterator.{YieldsList-from_slice, YieldsList-from_take}
use Rattle.std.proofs.lemmas.Iterator.Consumers.{YieldsList-at, YieldsList-from_filter, count_from_yields_List}
use Rattle.mkcard.proofs.WordWays.{numbers_counted}
use Rattle.mkcard.proofs.make.numbers_before.Goals as goal

pub returns : goal.returns
returns c =
    let a = c.args in
    count_from_yields_List _ _ c.count.ensures.ran
    (YieldsList-from_filter _ (λ b. ltb b 128)
    (YieldsList-at c.filter.ensures.source (YieldsList-from_take a.place (YieldsList-from_slice a.card.now cc) cc))
    c.filter.ensures.closure (λ x r q k. search (rules, tests)))
    ∙ numbers_counted _
