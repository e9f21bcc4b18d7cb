-- Laws of what specs/Arranged defines.
use Rattle.std.specs.Prelude.{ℕ, ◌-◌, ◌≤◌, ◌<◌, ◌≡◌, List, map, length}
use Rattle.std.proofs.Common.{ap, ◌∙◌, arith}
use Rattle.std.proofs.lemmas.List.{length-map}
use Rattle.laws.specs.Members.{In, Unique, upto, in_at, unique_at, of_map}
use Rattle.laws.specs.Members.{unique_map, upto_length, of_upto, unique_upto}
use Rattle.layings.specs.Layings.{film_positions, layings, OnFilm, listed, laid}
use Rattle.layings.specs.Arranged.{arranged, positions_length, in_film, Order, ordered, positions_unique, of_film, once}

-- EVERY LAYING ON THE FILM'S POSITIONS IS IN THE LIST
pub laying_listed : (P N : ℕ) → N ≤ P → (l : ℕ → ℕ) → OnFilm P N l → In (listed l N) (layings P N)
unfolding layings
laying_listed P N np l o =
    arranged N (film_positions P N) (listed l N) (positions_length P N) (record {
      size = length-map (upto 0 N) l ∙ upto_length 0 N;
      apart = unique_map l (upto 0 N) (λ a b p q e. o.laying.apart a b (omega (arith, of_upto 0 N a p)) (omega (arith, of_upto 0 N b q)) e) (unique_upto 0 N);
      from = λ a h. here a (of_map l a (upto 0 N) h);
    })
  where
    here : (a : ℕ) → (b : ℕ) × In b (upto 0 N) × (a ≡ l b) → In a (film_positions P N)
    here a (b, h, e) =
        let u : b < N = omega (arith, of_upto 0 N b h) in
        in_film P N a np (omega (arith, o.high b u)) (omega (arith, o.laying.into b u))

-- AND NOTHING ELSE IS
pub listed_laying : (P N : ℕ) → N ≤ P → (ys : List ℕ) → In ys (layings P N) → (length ys ≡ N) × OnFilm P N (laid ys)
unfolding layings
listed_laying P N np ys h =
    let o = ordered N (film_positions P N) ys (positions_length P N) (positions_unique P N) h in (
      o.size,
      record {
        laying = record {
          into = λ b u. (within o b u).1;
          apart = λ a b u v e. unique_at ys 0 o.apart a b (omega (arith, o.size)) (omega (arith, o.size)) e;
        };
        high = λ b u. (within o b u).0;
      },
    )
  where
    within : Order N (film_positions P N) ys → (b : ℕ) → b < N → (P - N ≤ laid ys b) × (laid ys b < P)
    within o b u = of_film P N (laid ys b) np (o.from (laid ys b) (in_at ys b 0 (omega (arith, o.size))))

-- EACH ONCE
pub layings_once : (P N : ℕ) → Unique (layings P N)
unfolding layings
layings_once P N = once N (film_positions P N) (positions_length P N) (positions_unique P N)
