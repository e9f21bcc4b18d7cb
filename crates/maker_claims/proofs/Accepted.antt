-- Laws of what specs/Accepted defines.
use Rattle.std.specs.Prelude.{ℕ, zero, suc, ◌-◌, ◌<◌, ◌↔◌, ◌⊎◌, length, Ok, Err}
use Rattle.std.proofs.Math.Path.{◌≡◌, refl, ap, subst}
use Rattle.std.proofs.Common.{sym, ◌∙◌, inl}
use Rattle.std.proofs.Math.Logic.{inr}
use mathlib.Core.List.{List, [], ◌++◌}
use native.Mathlib.Omega.{arith}
use Rattle.card.specs.declared.Figures.{Figures}
use Rattle.card.specs.Card.{Legal, record_fault, judge_record, card_of}
use Rattle.card.specs.Read.{accepted, blank_figures, read_card}
use Rattle.legality.specs.Legality.{legal_fault}
use Rattle.round_trip.specs.RoundTrip.{legal_read}
use Rattle.maker_lines.specs.declared.Drive.{Drive}
use Rattle.maker.specs.declared.MakerRead.{MakerRead}
use Rattle.maker_lines.specs.Lines.{Heading, heading_in}
use Rattle.maker_rows.specs.Rows.{Row, following, Listed, Zones, Refused, rows_from}
use Rattle.maker.specs.Maker.{figures_of, refused_text, answered, judged_figures, on_rows, on_heading, read_maker}
use Rattle.maker_lines.proofs.LineWays.{HeadingFacts}
use Rattle.maker_rows.proofs.RowWays.{rows_fuel}
use Rattle.maker.proofs.MakerWays.{heading_words}
use Rattle.maker_claims.specs.Listing.{heading_line, row_lines, text_of, innermost_first, Listing}
use Rattle.maker_claims.proofs.Spelling.{heading_spelled, heading_spelling, rows_spelled, rows_spelling}
use Rattle.maker_claims.specs.Accepted.{Refuses, heading_number, rows_number, Accepts, figures_legal, judged_fits}

module _ (s : List ℕ) (n c hop ret : ℕ) where
  refuses : (k line : ℕ) → 0 < k → read_maker s n c hop ret ≡ refused_text k line → Refuses s n c hop ret
  refuses zero line h e = absurd (omega arith)
  refuses (suc k) line h e = record { number = k; line = line; answer = e }

  pub answer_ways : Accepts s n c hop ret ⊎ Refuses s n c hop ret
  answer_ways = on (heading_in s) refl
    where
      judged : (d : Drive) (next : ℕ) (zs : List Row) → heading_in s ≡ Ok (d, next)
          → rows_from (length s) s next [] ≡ Zones zs
          → read_maker s n c hop ret ≡ judged_figures (figures_of d zs n c hop ret) → (k : ℕ) → record_fault 1 (figures_of d zs n c hop ret) ≡ k
          → Accepts s n c hop ret ⊎ Refuses s n c hop ret
      judged d next zs p q e zero f =
          inl (record { drive = d; next = next; zs = zs; heading_read_law = p; rows_read = q; fault = f; answer = e ∙ (unfold judged_figures answered in rw f) })
      judged d next zs p q e (suc k) f = inr (record { number = k; line = 0; answer = e ∙ (unfold judged_figures answered in rw f) })

      rows : (d : Drive) (next : ℕ) → heading_in s ≡ Ok (d, next) → (L : Listed)
          → rows_from (length s) s next [] ≡ L
          → read_maker s n c hop ret ≡ on_rows d n c hop ret L → Accepts s n c hop ret ⊎ Refuses s n c hop ret
      rows d next p (Zones zs) q e = judged d next zs p q (e ∙ (unfold on_rows in refl)) (record_fault 1 (figures_of d zs n c hop ret)) refl
      rows d next p (Refused k line) q e = inr (refuses k line (rows_number (length s) s next [] k line q) (e ∙ (unfold on_rows in refl)))

      on : (h : Heading) → heading_in s ≡ h → Accepts s n c hop ret ⊎ Refuses s n c hop ret
      on (Err k) e = inr (refuses k 1 (heading_number s k e) (unfold read_maker on_heading in rw e))
      on (Ok (d, next)) e =
          rows d next e (rows_from (length s) s next []) refl (unfold read_maker on_heading in rw e)

  -- ---- the claims

  number_of : {r : MakerRead} → read_maker s n c hop ret ≡ r → (read_maker s n c hop ret).verdict.number ≡ r.verdict.number
  number_of e = ap (λ (x : MakerRead). x.verdict.number) e

  -- WHAT IS ACCEPTED IS A LISTING
  pub accepted_listing : (read_maker s n c hop ret).verdict.number ≡ 0 → (d : Drive) × (rows : List Row) × Listing s n c hop ret d rows
  unfolding text_of heading_line innermost_first following refused_text
  accepted_listing e = go answer_ways
    where
      go : Accepts s n c hop ret ⊎ Refuses s n c hop ret → (d : Drive) × (rows : List Row) × Listing s n c hop ret d rows
      go (inr r) = absurd (let z = number_of r.answer in omega arith)
      go (inl a) =
          let d = a.drive in
          let f = (heading_words s d a.next a.heading_read_law).facts in
          let sp = rows_spelling (length s) s a.next [] a.zs (omega arith) a.rows_read in (
            d,
            sp.rows,
            record {
              text = heading_spelling s d a.next a.heading_read_law
                  ∙ ap (λ (x : List ℕ). heading_line d ++ x) sp.text;
              drive = record { turns = f.turns_in; switch = f.switch_in; heads = f.heads_in; block = f.block_in_law };
              follow = sp.follow;
              legal = subst (λ (zs : List Row). Legal 1 (figures_of d zs n c hop ret)) (sym sp.zones) (figures_legal d a.zs n c hop ret a.fault);
            },
          )

  -- A LISTING IS ANSWERED BY ITS FIGURES
  pub listing_answered : (d : Drive) (rows : List Row) → Listing s n c hop ret d rows
      → read_maker s n c hop ret ≡ record { verdict = accepted; figures = figures_of d (innermost_first rows) n c hop ret }
  unfolding text_of heading_line innermost_first following read_maker on_heading on_rows judged_figures answered
  listing_answered d rows l =
      let h = heading_spelled s d.turns d.switch d.heads d.block (row_lines rows) l.text in
      let f : HeadingFacts d.turns d.switch d.heads d.block =
      record { turns_in = l.drive.turns; switch_in = l.drive.switch; heads_in = l.drive.heads; block_in_law = l.drive.block } in
      let read : heading_in s ≡ Ok (d, h.0) = h.1 ∙ judged_fits d h.0 f in
      let rows_read = rows_fuel s (length s) (length s - h.0) h.0 [] (omega arith) (omega arith) ∙ rows_spelled rows s h.0 [] h.2 l.follow in
      rw (read, rows_read, legal_fault 1 (figures_of d (innermost_first rows) n c hop ret) l.legal)

  pub accepts_legal : ((read_maker s n c hop ret).verdict.number ≡ 0) ↔ ((d : Drive) × (rows : List Row) × Listing s n c hop ret d rows)
  accepts_legal = (accepted_listing, λ (d, rows, l). number_of (listing_answered d rows l))

  -- ACCEPTED FIGURES ARE THOSE OF A CARD
  pub accepted_card_law : (read_maker s n c hop ret).verdict.number ≡ 0
      → Legal 1 (read_maker s n c hop ret).figures × (judge_record 1 (read_maker s n c hop ret).figures ≡ accepted)
      × (read_card 1 (card_of (read_maker s n c hop ret).figures) ≡ record { verdict = accepted; figures = (read_maker s n c hop ret).figures })
  accepted_card_law e = go answer_ways
    where
      card : (f : Figures) → Legal 1 f → Legal 1 f × (judge_record 1 f ≡ accepted) × (read_card 1 (card_of f) ≡ record { verdict = accepted; figures = f })
      card f l = (l, unfold judge_record in rw (legal_fault 1 f l), legal_read 1 f l)

      go : Accepts s n c hop ret ⊎ Refuses s n c hop ret
          → Legal 1 (read_maker s n c hop ret).figures × (judge_record 1 (read_maker s n c hop ret).figures ≡ accepted)
          × (read_card 1 (card_of (read_maker s n c hop ret).figures) ≡ record { verdict = accepted; figures = (read_maker s n c hop ret).figures })
      go (inl a) = rw a.answer (card (figures_of a.drive a.zs n c hop ret) (figures_legal a.drive a.zs n c hop ret a.fault))
      go (inr r) = absurd (let z = number_of r.answer in unfold refused_text in omega arith)

  -- A REFUSED TEXT HAS NONE
  pub refused_blank : (k : ℕ) → (read_maker s n c hop ret).verdict.number ≡ suc k → (read_maker s n c hop ret).figures ≡ blank_figures
  refused_blank k e = go answer_ways
    where
      go : Accepts s n c hop ret ⊎ Refuses s n c hop ret → (read_maker s n c hop ret).figures ≡ blank_figures
      go (inl a) = absurd (let z = number_of a.answer in omega arith)
      go (inr r) = ap (λ (x : MakerRead). x.figures) r.answer ∙ (unfold refused_text in refl)
