use Prim.Native.Nat.{ℕ}
use mathlib.Core.Path.{◌≡◌, sym, ◌∙◌}
use native.Mathlib.Omega.{arith}
use Rattle.card.specs.Card.{Legal}
use Rattle.card.specs.CardLaws.{table_range}
use Rattle.placement.specs.Showing.{visits_of, walked_single}
use Rattle.plan.specs.Plan.{showing_of, walk_of, over_of}
use Rattle.plan.specs.Legal.{some_film, film_two}
use Rattle.pacing.specs.Streams.{streams, cap_of}
use Rattle.layings.specs.Layings.{least_of, count_of}
use Rattle.try_all.specs.Answer.{Few}
use Rattle.try_all.specs.Ways.{by_figures, by_films, fed_once, alone, found_is}
use Rattle.try_all.proofs.Ways.{by_length, by_streams, by_none, least_small}
use borrow.Author.Rules.{rules}
use Rattle.try_all.proofs.try_figures.Statement.{statement}
use Rattle.try_all.proofs.try_figures.Tie as tie

-- past the tests of the films
abbrev start : (c : tie.Else-blocks-gt-MAX_TRIED) → tie.Start
start c = c.before.before.before.before.before.before.before

accepted : (c : tie.Else-blocks-gt-MAX_TRIED) → (start c).args.read.verdict.number ≡ 0
accepted c = omega arith

few : (c : tie.Else-blocks-gt-MAX_TRIED) → Few (start c).args.read.figures
few c = (c.if-figures-gt1.false, c.if-blocks-gt-MAX_TRIED.false)

legal : (c : tie.Else-blocks-gt-MAX_TRIED) → Legal 1 (start c).args.read.figures
legal c = (start c).requires (accepted c)

single : (c : tie.Else-blocks-gt-MAX_TRIED) → (start c).args.read.figures.films ≡ 1
single c = alone (start c).args.read.figures (legal c) (few c)

returns : tie.Need-returns-then-verdict-ne-ACCEPTED
returns c = let a = c.args in c.refused.ensures ∙ by_figures (walk_of a.showing) a.read c.if-verdict-ne-ACCEPTED.true

returns-2 : tie.Need-returns-then-figures-gt1
returns-2 c = let a = c.args in
    c.refused-then-figures-gt1.ensures ∙ by_films (walk_of a.showing) a.read (omega arith) c.if-figures-gt1.true

returns-3 : tie.Need-returns-then-blocks-gt-MAX_TRIED
returns-3 c =
    let t = c in
    let a = t.args in
    c.refused-then-blocks-gt-MAX_TRIED.ensures ∙ by_length (walk_of a.showing) a.read (omega arith) t.if-figures-gt1.false t.if-blocks-gt-MAX_TRIED.true

film-times-requires : tie.Need-film_times-requires
film-times-requires c κs = (legal c, single c, (few c).1)

try-layings-requires : tie.Need-try_layings-found-requires
try-layings-requires c κs = let e = c in
    let f = (start c.before).args.read.figures in
    (film_two f (legal c.before) 0 (some_film f (legal c.before)), (few c.before).1, c.film_times.ensures.1)

-- what was found is the smallest worst2, and how many have it
found : (c : tie.After-try_layings-found) → (let a = (start c.before.before).args in let f = c.try_layings-found.result in
    (f.least ≡ least_of (walk_of a.showing) a.read.figures) × (f.count ≡ count_of (walk_of a.showing) a.read.figures))
found c =
    let a = (start c.before.before).args in
    let t = c.film_times in
    found_is (walk_of a.showing) (walked_single (showing_of a.showing)) a.read.figures t.result _ _ t.ensures.0
    c.try_layings-found.ensures.0 c.try_layings-found.ensures.1

-- no word tells a search of two visits a block
abbrev once : (w : ℕ) → visits_of (walk_of w) ≡ 1
once w = walked_single (showing_of w)

count-streams-requires : tie.Need-count_streams-streams-requires
count-streams-requires c κs =
    let t = c in
    let e = c in
    let a = (start c.before.before.before).args in
    let x = walk_of a.showing in
    let f = a.read.figures in (
      record { pair = omega (arith, (found c.before).0, least_small x (once a.showing) f (legal c.before.before.before) (single c.before.before.before)); moves = λ k h. (table_range f (legal c.before.before.before) k h).1 },
      (legal c.before.before.before).rate.0,
      omega arith,
    )

-- the streams of what was found
counted : (c : tie.After-count_streams-streams) → (let t = c in let a = (start c.before.before.before.before).args in let f = a.read.figures in
    let x = walk_of a.showing in
    c.count_streams-streams.result ≡ streams (cap_of x) f.rate t.try_layings-found.result.least (over_of x f) f.bytes)
counted c =
    let t = c in
    let a = (start c.before.before.before.before).args in
    c.count_streams-streams.ensures ∙ fed_once (walk_of a.showing) (once a.showing) a.read.figures _

returns-4 : tie.Need-returns-then-streams-eq0
returns-4 c =
    let t = c in
    let e = c in
    let a = (start c.before.before.before.before.before.before).args in
    let f = found c.before.before.before.before in
    c.refused-then-streams-eq0.ensures ∙ by_streams (walk_of a.showing) a.read (accepted c.before.before.before.before.before.before) (few c.before.before.before.before.before.before) _ f.0
    (sym (counted c.before.before) ∙ c.if-streams-eq0.true)

returns-5 : tie.Need-returns
returns-5 c =
    let t = c in
    let e = c in
    let a = (start c.before.before.before.before.before).args in
    let f = found c.before.before.before in
    by_none (walk_of a.showing) a.read (accepted c.before.before.before.before.before) (few c.before.before.before.before.before) _ f.0 _ f.1 (λ z. c.if-streams-eq0.false (counted c.before ∙ z))

pub try_figures_spec : {M : Type 1} → statement M
try_figures_spec =
    tie.close
    (tie.spec
    (λ c κs. search rules)
    returns
    (λ c κs. search rules)
    returns-2
    (λ c. search rules)
    (λ c κs. search rules)
    returns-3
    film-times-requires
    try-layings-requires
    count-streams-requires
    (λ c κs. search rules)
    returns-4
    returns-5)
