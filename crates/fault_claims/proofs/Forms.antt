-- Laws of what specs/Forms defines.
use Rattle.std.specs.Prelude.{ℕ, ◌+◌, ◌≤◌, ◌≡◌, refl, List, ◌++◌, take, drop, leb}
use Rattle.std.proofs.Common.{sym, ap, ◌∙◌, subst, arith, take-append-drop, length-take-le}
use Rattle.std.proofs.Math.ListN.{length}
use borrow.Author.Tests.{le-leb, lt-leb}
use Rattle.numbers.specs.Limits.{no_number}
use Rattle.leb128.specs.declared.Number.{Number}
use Rattle.leb128.specs.declared.Number.TheVariants.{Value, CutOff, Malformed}
use Rattle.leb128.specs.Number.{Bytes, groups, continuing, number_in, number_at}
use Rattle.leb128.specs.NumberLaws.{written_read, read_written}
use Rattle.fault_claims.specs.CardFault.{StartsWith, CutShort, WrongForm}
use Rattle.fault_claims.specs.Forms.{Told, told, continue_all, all_continue}

module _ (s : List ℕ) (at : ℕ) where
  here : Told (length s) at (drop at s) (continuing 5 (drop at s)) (number_at s at)
  unfolding number_at
  here = told (length s) at (drop at s) (continuing 5 (drop at s))

  -- a number that is cut off
  pub cut_short : (size : ℕ) → number_at s at ≡ CutOff size → (size ≡ length s) × CutShort (drop at s)
  cut_short size e =
      let t = subst (Told (length s) at (drop at s) (continuing 5 (drop at s))) e here in
      (t.0, (omega (arith, t.1, t.2), λ i h. continue_all 5 (drop at s) i (omega (arith, t.2))))

  pub short_cut : CutShort (drop at s) → number_at s at ≡ CutOff (length s)
  unfolding number_at number_in
  short_cut (l, h) =
      let k : continuing 5 (drop at s) ≡ length (drop at s) = all_continue 5 (drop at s) l h in
      rw (k, lt-leb 5 (length (drop at s)) l, le-leb (length (drop at s)) (length (drop at s)) (omega arith))

  -- a number in its form
  pub starts_value : at ≤ length s → (n : ℕ) → StartsWith (drop at s) n → number_at s at ≡ Value n (at + length (groups n))
  starts_value h n (small, rest, e) =
      let front : length (take at s) ≡ at = length-take-le at s h in
      let whole : take at s ++ (groups n ++ rest) ≡ s = ap (λ (bs : List ℕ). take at s ++ bs) (sym e) ∙ take-append-drop at s in
      rw front at (rw whole at (written_read (take at s) rest n small))

  -- a number of another form
  pub malformed_here : (start : ℕ) → number_at s at ≡ Malformed start → start ≡ at
  malformed_here start e = subst (Told (length s) at (drop at s) (continuing 5 (drop at s))) e here

  pub wrong_form : at ≤ length s → (start : ℕ) → number_at s at ≡ Malformed start → WrongForm (drop at s)
  wrong_form h start e = (
    λ n w. absurd (let z : ◌≡◌ {A = Number} (Malformed start) (Value n (at + length (groups n))) = sym e ∙ starts_value h n w in
        let q : ◌≡◌ {A = ℕ} 0 1 = cc in omega arith),
    λ c. absurd (let z : ◌≡◌ {A = Number} (Malformed start) (CutOff (length s)) = sym e ∙ short_cut c in let q : ◌≡◌ {A = ℕ} 0 1 = cc in omega arith),
  )

  pub form_wrong : Bytes s → WrongForm (drop at s) → number_at s at ≡ Malformed at
  form_wrong y (no_number, no_cut) = by (number_at s at) refl
    where
      by : (n : Number) → number_at s at ≡ n → number_at s at ≡ Malformed at
      by (Value n next) e = let t = read_written s at n next y e in absurd (no_number n (t.small, drop next s, t.bytes))
      by (CutOff size) e = absurd (no_cut (cut_short size e).1)
      by (Malformed start) e = e ∙ ap Malformed (malformed_here start e)
