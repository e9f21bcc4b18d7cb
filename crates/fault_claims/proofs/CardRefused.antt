-- Laws of what specs/CardRefused defines.
use Rattle.std.specs.Prelude.{ℕ, ◌+◌, ◌≤◌, ◌≡◌, refl, ◌⊎◌}
use Rattle.std.proofs.Math.Path.{sym, ap, subst}
use Rattle.std.proofs.Common.{◌∙◌, inl, inr, drop_of_length-le, drop-drop}
use mathlib.Core.List.{List, [], ◌∷◌, ◌++◌, map, append_assoc}
use native.Mathlib.Omega.{arith}
use Rattle.std.proofs.Math.ListN.{length, drop, length-append, length-drop}
use Rattle.std.proofs.Math.Seq.{drop-append_seam}
use Rattle.laws.specs.Each.{Each}
use Rattle.leb128.specs.Number.{Bytes, groups}
use Rattle.card.specs.declared.Verdict.{Verdict}
use Rattle.card.specs.Card.{bytes_of}
use Rattle.card.specs.Read.{read_card}
use Rattle.fault_claims.specs.Rules.{Figure, Holds, Breaks, Values, rules}
use Rattle.fault_claims.specs.Says.{holds_unbroken, breaks_one}
use Rattle.fault_claims.specs.FigureRules.{good_small}
use Rattle.fault_claims.proofs.Forms.{short_cut, starts_value, form_wrong}
use Rattle.fault_claims.specs.CardRun.{OnFigure, Answers}
use Rattle.fault_claims.proofs.CardRun.{answers_card}
use Rattle.fault_claims.specs.CardFault.{FaultIn, CardFault}
use Rattle.fault_claims.specs.CardRefused.{Named, named}

module _ (visits : ℕ) (s : List ℕ) (y : Bytes s) (v : Values) (x : Verdict) (k place : ℕ) where
  -- the fault is in the bytes from here on
  fault_here : (after : List Figure) (at : ℕ) → at ≤ length s → FaultIn visits v after (drop at s) at (length s) k place → Answers visits v s at after x
      → x ≡ Named k place
  unfolding Answers
  fault_here [] at l (number, here, some) (inl (h, e)) = e ∙ named _ (sym number) (sym here)
  fault_here [] at l (number, here, some) (inr (h, e)) = absurd (some (drop_of_length-le s h))
  fault_here (g ∷ gs) at l (inl (number, end, cut)) a =
      subst (OnFigure (rules visits v g) (v g) at x (λ next. Answers visits v s next gs x)) (short_cut s at cut) a ∙ named _ (sym number) (sym end)
  fault_here (g ∷ gs) at l (inr (inl (number, here, wrong))) a =
      subst (OnFigure (rules visits v g) (v g) at x (λ next. Answers visits v s next gs x)) (form_wrong s at y wrong) a ∙ named _ (sym number) (sym here)
  fault_here (g ∷ gs) at l (inr (inr (here, starts, broken))) a =
      by (subst (OnFigure (rules visits v g) (v g) at x (λ next. Answers visits v s next gs x)) (starts_value s at l (v g) starts) a refl)
    where
      by : {L : Type 0} → (Breaks (rules visits v g) x.number × (x.place ≡ at)) ⊎ (Holds (rules visits v g) × L) → x ≡ Named k place
      by (inl (b, p)) = named x (breaks_one (rules visits v g) x.number k b broken) (p ∙ sym here)
      by (inr (h, later)) = absurd (holds_unbroken (rules visits v g) k h broken)

  -- a good figure is passed over
  passed : (g : Figure) (gs : List Figure) (at : ℕ) (rest : List ℕ) → at ≤ length s → drop at s ≡ groups (v g) ++ rest → Holds (rules visits v g)
      → Answers visits v s at (g ∷ gs) x
      → (at + length (groups (v g)) ≤ length s) × (drop (at + length (groups (v g))) s ≡ rest) × Answers visits v s (at + length (groups (v g))) gs x
  unfolding Answers
  passed g gs at rest l e good a = (
    omega (arith, length-drop at s, ap length e, length-append (groups (v g)) rest),
    sym (drop-drop (length (groups (v g))) at s) ∙ ap (λ (bs : List ℕ). drop (length (groups (v g))) bs) e ∙ drop-append_seam (groups (v g)) rest,
    by (subst (OnFigure (rules visits v g) (v g) at x (λ next. Answers visits v s next gs x))
        (starts_value s at l (v g) (good_small visits v g good, rest, e)) a refl),
  )
    where
      by : {L : Type 0} → (Breaks (rules visits v g) x.number × (x.place ≡ at)) ⊎ (Holds (rules visits v g) × L) → L
      by (inl (b, p)) = absurd (holds_unbroken (rules visits v g) x.number good b)
      by (inr (h, later)) = later

  -- the fault is after good figures
  fault_after_law : (before after : List Figure) (left : List ℕ) (at : ℕ) → at ≤ length s → drop at s ≡ bytes_of (map v before) ++ left
      → Each (λ g. Holds (rules visits v g)) before → FaultIn visits v after left (at + length (bytes_of (map v before))) (length s) k place
      → Answers visits v s at (before ++ after) x → x ≡ Named k place
  unfolding bytes_of
  fault_after_law [] after left at l e good f a =
      let start : at + 0 ≡ at = omega arith in
      fault_here after at l (rw (e, sym start) f) a
  fault_after_law (g ∷ before) after left at l e good f a =
      let rest = bytes_of (map v before) ++ left in
      let start : at + length (groups (v g) ++ bytes_of (map v before)) ≡ at + length (groups (v g)) + length (bytes_of (map v before)) =
      omega (arith, length-append (groups (v g)) (bytes_of (map v before))) in
      let p = passed g (before ++ after) at rest l (e ∙ append_assoc (groups (v g)) (bytes_of (map v before)) left) good.0 a in
      fault_after_law before after left (at + length (groups (v g))) p.0 p.1 good.1 (rw (sym start) f) p.2

-- A CARD WITH A FAULT IS REFUSED BY IT
pub fault_named : (visits : ℕ) (s : List ℕ) → Bytes s → (k at : ℕ) → CardFault visits s k at → (read_card visits s).verdict ≡ Named k at
fault_named visits s y k at c =
    let v = c.values in
    let start : 0 + length (bytes_of (map v c.before)) ≡ length (bytes_of (map v c.before)) = omega arith in
    fault_after_law visits s y v (read_card visits s).verdict k at c.before c.after c.left 0 (omega arith) c.bytes c.good (rw start c.fault)
    (subst (λ (gs : List Figure). Answers visits v s 0 gs (read_card visits s).verdict) c.order (answers_card visits v s))
