-- Laws of what specs/CardNamed defines.
use Rattle.std.specs.Prelude.{ℕ, suc, ◌≤◌, ◌<◌, ◌≡◌, ◌⊎◌, ◌↔◌, drop}
use Rattle.std.proofs.Math.Path.{refl, ap}
use Rattle.std.proofs.Common.{sym, ◌∙◌, subst, inl, inr, arith, length-append}
use mathlib.Core.List.{List, [], ◌∷◌, ◌++◌, map, append_assoc, map-append}
use Rattle.std.proofs.Math.ListN.{length, length-drop}
use Rattle.laws.specs.Each.{each_append}
use Rattle.numbers.specs.Refusals.{card_goes_on}
use Rattle.leb128.specs.declared.Number.{Number}
use Rattle.leb128.specs.declared.Number.TheVariants.{Value, CutOff, Malformed}
use Rattle.leb128.specs.Number.{Bytes, number_at}
use Rattle.leb128.specs.NumberLaws.{read_written}
use Rattle.card.specs.declared.Verdict.{Verdict}
use Rattle.card.specs.Card.{bytes_of}
use Rattle.card.specs.Read.{accepted, read_card}
use Rattle.fault_claims.specs.Rules.{Figure, Kind, Zones, Films, figures_in_order, Holds, Breaks, Values, rules}
use Rattle.fault_claims.proofs.Forms.{cut_short, malformed_here, wrong_form}
use Rattle.fault_claims.specs.Reading.{offset_of, number_of, read_values, offset_next, number_here}
use Rattle.fault_claims.proofs.Reading.{counted_card}
use Rattle.fault_claims.specs.CardRun.{OnFigure, Answers}
use Rattle.fault_claims.proofs.CardRun.{answers_card}
use Rattle.fault_claims.specs.CardFault.{FaultIn, CardFault}
use Rattle.fault_claims.specs.CardRefused.{Named}
use Rattle.fault_claims.proofs.CardRefused.{fault_named}
use Rattle.fault_claims.specs.CardNamed.{bytes_more, same_fault, v as v_in_specs, Read as Read_in_specs}

module _ (visits : ℕ) (s : List ℕ) (y : Bytes s) where
  abbrev v : Values
  v = v_in_specs visits s y

  abbrev Read : (before after : List Figure) (at n : ℕ) (x : Verdict) → Type 0
  Read = Read_in_specs visits s y

  -- the fault in the bytes left is one of the card
  module _ (before after : List Figure) (at n : ℕ) (x : Verdict) (k place : ℕ) (r : Read before after at n x) where
    fault_of_law : FaultIn visits v after (drop at s) at (length s) (suc k) place → CardFault visits s (suc k) place
    fault_of_law f =
        let start : at ≡ length (bytes_of (map v before)) =
        omega (arith, r.inside, ap length r.bytes, length-append (bytes_of (map v before)) (drop at s), length-drop at s) in
        record {
          values = v;
          before = before;
          after = after;
          left = drop at s;
          order = r.order;
          bytes = r.bytes;
          good = r.good;
          fault = subst (λ (j : ℕ). FaultIn visits v after (drop at s) j (length s) (suc k) place) start f;
        }

  -- a good figure more
  read_more : (g : Figure) (before after : List Figure) (at n next : ℕ) (x : Verdict) → Read before (g ∷ after) at n x
      → number_at s at ≡ Value (v g) next → Holds (rules visits v g) → Answers visits v s next after x → Read (before ++ (g ∷ [])) after next (suc n) x
  read_more g before after at n next x r q h a =
      let t = read_written s at (v g) next y q in
      record {
        order = r.order ∙ sym (append_assoc before (g ∷ []) after);
        inside = t.inside;
        bytes = r.bytes ∙ ap (λ (bs : List ℕ). bytes_of (map v before) ++ bs) t.bytes ∙ sym (bytes_more (map v before) (v g) (drop next s))
            ∙ ap (λ (ns : List ℕ). bytes_of ns ++ drop next s) (sym (map-append v before (g ∷ [])));
        good = each_append (λ g. Holds (rules visits v g)) before (g ∷ []) r.good (h, tt);
        offset = offset_next s n at (v g) next r.offset q;
        counted = r.counted.1;
        answer = a;
      }

  -- the first fault from an offset on
  found : (after before : List Figure) (at n : ℕ) (x : Verdict) (k place : ℕ) → Read before after at n x → x ≡ Named (suc k) place
      → CardFault visits s (suc k) place
  unfolding Answers
  found [] before at n x k place r e = by r.answer
    where
      by : ((at < length s) × (x ≡ Named card_goes_on at)) ⊎ ((length s ≤ at) × (x ≡ accepted)) → CardFault visits s (suc k) place
      by (inl (h, f)) =
          let p = same_fault e f in
          fault_of_law before [] at n x k place r (p.0, p.1, λ z. omega (arith, length-drop at s, ap length z))
      by (inr (h, f)) = absurd (omega (arith, (same_fault e f).0))
  found (g ∷ after) before at n x k place r e =
      on (number_at s at) refl r.answer (λ next m. found after (before ++ (g ∷ [])) next (suc n) x k place m e)
    where
      on : (m : Number) → number_at s at ≡ m → OnFigure (rules visits v g) (v g) at x (λ next. Answers visits v s next after x) m
          → ((next : ℕ) → Read (before ++ (g ∷ [])) after next (suc n) x → CardFault visits s (suc k) place) → CardFault visits s (suc k) place
      on (CutOff size) q f later =
          let c = cut_short s at size q in
          let p = same_fault e f in
          fault_of_law before (g ∷ after) at n x k place r (inl (p.0, p.1 ∙ c.0, c.1))
      on (Malformed start) q f later =
          let p = same_fault e f in
          fault_of_law before (g ∷ after) at n x k place r (inr (inl (p.0, p.1 ∙ malformed_here s at start q, wrong_form s at r.inside start q)))
      on (Value w next) q f later = by (f same)
        where
          same : w ≡ v g
          same = number_here s n at w next r.offset q ∙ ap (number_of s) (sym r.counted.0)

          here : number_at s at ≡ Value (v g) next
          here = q ∙ ap (λ (u : ℕ). Value u next) same

          by : (Breaks (rules visits v g) x.number × (x.place ≡ at)) ⊎ (Holds (rules visits v g) × Answers visits v s next after x)
              → CardFault visits s (suc k) place
          by (inl (b, p)) =
              let t = read_written s at (v g) next y here in
              let broken = subst (λ (z : Verdict). Breaks (rules visits v g) z.number) e b in
              fault_of_law before (g ∷ after) at n x k place r
              (inr (inr (ap (λ (z : Verdict). z.place) (sym e) ∙ p, (t.small, drop next s, t.bytes), broken)))
          by (inr (h, a)) = later next (read_more g before after at n next x r here h a)

-- A REFUSED CARD HAS THE FAULT THAT IS NAMED
pub named_fault : (visits : ℕ) (s : List ℕ) → Bytes s → (k at : ℕ) → (read_card visits s).verdict ≡ Named (suc k) at → CardFault visits s (suc k) at
unfolding bytes_of offset_of
named_fault visits s y k at e =
    let v = read_values s in
    found visits s y (figures_in_order (v Kind) (v Zones) (v Films)) [] 0 0 (read_card visits s).verdict k at (record {
      order = refl;
      inside = omega arith;
      bytes = refl;
      good = tt;
      offset = refl;
      counted = counted_card (v Kind) (v Zones) (v Films);
      answer = answers_card visits v s;
    }) e

-- THE FIRST FAULT OF A CARD IS NAMED
pub card_fault : (visits : ℕ) (s : List ℕ) → Bytes s → (k at : ℕ) → ((read_card visits s).verdict ≡ Named (suc k) at) ↔ CardFault visits s (suc k) at
card_fault visits s y k at = (named_fault visits s y k at, fault_named visits s y (suc k) at)
