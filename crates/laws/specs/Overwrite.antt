-- Bytes written over a list from an offset on; all else keeps its contents.
-- Assumes nothing.
use Rattle.std.specs.Prelude.{ℕ, ◌+◌, ◌-◌, ◌≤◌, ◌≡◌, List, [], ◌++◌, length, take, drop}
use Rattle.std.proofs.Common.{sym, ap, ap₂, ◌∙◌, append_assoc, arith, length-append, length-take, length-drop, take-append-drop, length-take-le, take_at, drop-drop}
use Rattle.std.proofs.Math.Seq.{drop-append-add}

-- s with bs in the place of what stood from `at` on
unfoldable pub overwrite : List ℕ → ℕ → List ℕ → List ℕ
overwrite s at bs = take at s ++ (bs ++ drop (at + length bs) s)

pub overwrite_none : (s : List ℕ) (at : ℕ) → overwrite s at [] ≡ s
unfolding overwrite
overwrite_none s at = let e : at + 0 ≡ at = omega arith in rw e (take-append-drop at s)

pub overwrite_length : (s : List ℕ) (at : ℕ) (bs : List ℕ) → at + length bs ≤ length s → length (overwrite s at bs) ≡ length s
unfolding overwrite
overwrite_length s at bs h =
    omega (
      arith,
      length-append (take at s) (bs ++ drop (at + length bs) s),
      length-append bs (drop (at + length bs) s),
      length-take at s,
      length-drop (at + length bs) s,
    )

-- one piece after the other is both at once
pub overwrite_more : (s : List ℕ) (at : ℕ) (a b : List ℕ) → at + length a ≤ length s
    → overwrite (overwrite s at a) (at + length a) b ≡ overwrite s at (a ++ b)
unfolding overwrite
overwrite_more s at a b h =
    let front : length (take at s ++ a) ≡ at + length a = length-append (take at s) a ∙ ap (λ (n : ℕ). n + length a) (length-take-le at s (omega arith)) in
    let whole : take at s ++ (a ++ drop (at + length a) s) ≡ (take at s ++ a) ++ drop (at + length a) s = sym (append_assoc (take at s) a _) in
    let far : at + length a + length b ≡ at + length (a ++ b) = omega (arith, length-append a b) in
    rw whole
    (ap₂ (λ (x y : List ℕ). x ++ (b ++ y)) (take_at (take at s ++ a) _ (at + length a) front) (later front far)
    ∙ append_assoc (take at s) a _
    ∙ ap (λ (x : List ℕ). take at s ++ x) (sym (append_assoc a b _)))
  where
    later : length (take at s ++ a) ≡ at + length a → at + length a + length b ≡ at + length (a ++ b)
        → drop (at + length a + length b) ((take at s ++ a) ++ drop (at + length a) s) ≡ drop (at + length (a ++ b)) s
    later front far =
        ap (λ (n : ℕ). drop (n + length b) ((take at s ++ a) ++ drop (at + length a) s)) (sym front)
        ∙ drop-append-add (take at s ++ a) (drop (at + length a) s) (length b)
        ∙ drop-drop (length b) (at + length a) s
        ∙ ap (λ (n : ℕ). drop n s) far

-- from the front on
pub overwrite_front : (s bs : List ℕ) → overwrite s 0 bs ≡ bs ++ drop (length bs) s
unfolding overwrite
overwrite_front s bs = let e : 0 + length bs ≡ length bs = omega arith in rw e
