use Rattle.std.proofs.Common.{ℕ, zero, suc, ◌≡◌, refl, sym, ap, ◌∙◌, List, [], ◌∷◌, ◌++◌, length, get_or, take, drop, arith}
use Rattle.std.proofs.Math.ListN.{set}
use Rattle.laws.specs.Map.{map_to, map_to_none, store_next}
use Rattle.rules.specs.Order.{dropped}
use Rattle.admission.specs.Places.{all_lowered}
use Rattle.admission.proofs.lower_places.Goals as goal

-- the first n elements mapped, and the rest as they are
map_first : (f : ℕ → ℕ → ℕ) (i n : ℕ) (q : List ℕ) → map_to f i (length (take n q)) (take n q) ++ drop n q ≡ map_to f i n q
unfolding map_to
map_first f i zero [] = refl
map_first f i zero (x ∷ q) = refl
map_first f i (suc n) [] = refl
map_first f i (suc n) (x ∷ q) = ap (λ (t : List ℕ). f i x ∷ t) (map_first f (suc i) n q)

pub loop-place-init : goal.loop-place-init
loop-place-init c = sym (map_to_none _ 0 _)

pub loop-place-preserved : goal.loop-place-preserved
loop-place-preserved c =
    let a = c.args in
    let l = c.loop-place in
    let i = l.place-index in
    ap (λ (x : List ℕ). set x i c.lowered.result) l.invariant
    ∙ store_next (λ _. dropped a.gone) i (take a.streams a.places.now) 0 _ (omega arith)
    (c.lowered.ensures ∙ ap (λ (x : List ℕ). dropped a.gone (get_or x i 0)) l.invariant)

pub returns : goal.returns
returns c =
    let n = c.args.streams in
    let q = c.args.places.now in
    let l = c.loop-place in
    let f : ℕ → ℕ → ℕ = λ _. dropped c.args.gone in
    let e : l.place-index ≡ length (take n q) = omega arith in
    ap (λ (x : List ℕ). x ++ drop n q) (l.invariant ∙ ap (λ (k : ℕ). map_to f 0 k (take n q)) e)
    ∙ map_first f 0 n q ∙ all_lowered n c.args.gone q c.requires.2 c.requires.3
