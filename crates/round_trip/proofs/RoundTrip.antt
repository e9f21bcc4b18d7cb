-- Laws of what specs/RoundTrip defines.
use Rattle.std.specs.Prelude.{ℕ, ◌+◌, ◌≤◌, ◌≡◌, ◌↔◌, List, ◌++◌, length, drop}
use Rattle.std.proofs.Math.Path.{sym}
use Rattle.std.proofs.Common.{ap, ◌∙◌, subst}
use Rattle.leb128.specs.Number.{Bytes}
use Rattle.card.specs.declared.Figures.{Figures}
use Rattle.card.specs.declared.CardRead.{CardRead}
use Rattle.card.specs.Card.{Legal, card_of, written_card, buffer_after}
use Rattle.card.specs.Read.{accepted, read_card}
use Rattle.card.specs.CardLaws.{legal_fewer}
use Rattle.legality.specs.Legality.{fault_legal}
use Rattle.round_trip.specs.RoundTrip.{AcceptedWith, read_card_law, legal_read, written}

-- THE READER ACCEPTS EXACTLY THE CARDS OF LEGAL FIGURES
pub reader_legal : (k : ℕ) (s : List ℕ) → Bytes s → ((read_card k s).verdict.number ≡ 0) ↔ ((f : Figures) × Legal k f × (s ≡ card_of f))
reader_legal k s y = (λ e. found (read_card k s).figures (read_card_law k s y e), accepts)
  where
    found : (g : Figures) → AcceptedWith k s g → (f : Figures) × Legal k f × (s ≡ card_of f)
    found g a = (g, fault_legal k g a.wide a.clear, a.same)

    accepts : (f : Figures) × Legal k f × (s ≡ card_of f) → (read_card k s).verdict.number ≡ 0
    accepts (f, l, e) = ap (λ (x : List ℕ). (read_card k x).verdict.number) e ∙ ap (λ (r : CardRead). r.verdict.number) (legal_read k f l)

-- A CARD THAT IS ACCEPTED FOR MORE POSITIONS A BLOCK IS ACCEPTED FOR FEWER, WITH THE SAME FIGURES
pub read_fewer : (j k : ℕ) (s : List ℕ) → j ≤ k → Bytes s → (read_card k s).verdict.number ≡ 0 → read_card j s ≡ read_card k s
read_fewer j k s h y e = by (read_card k s).figures (read_card_law k s y e)
  where
    by : (g : Figures) → AcceptedWith k s g → read_card j s ≡ read_card k s
    by g a = ap (read_card j) a.same ∙ legal_read j g (legal_fewer j k g h (fault_legal k g a.wide a.clear)) ∙ sym a.whole

-- AN ACCEPTED CARD IS WHAT THE WRITER WRITES OF ITS FIGURES
pub accepted_written : (s : List ℕ) → Bytes s → (read_card 1 s).verdict.number ≡ 0 → (out : List ℕ) → length s ≤ length out
    → (written_card (read_card 1 s).figures out ≡ record { verdict = accepted; length = length s })
    × (buffer_after (read_card 1 s).figures out ≡ s ++ drop (length s) out)
accepted_written s y e out = by (read_card 1 s).figures (read_card_law 1 s y e)
  where
    by : (g : Figures) → AcceptedWith 1 s g → length s ≤ length out
        → (written_card g out ≡ record { verdict = accepted; length = length s }) × (buffer_after g out ≡ s ++ drop (length s) out)
    by g a =
        subst (λ (x : List ℕ). length x ≤ length out
        → (written_card g out ≡ record { verdict = accepted; length = length x }) × (buffer_after g out ≡ x ++ drop (length x) out))
        (sym a.same) (written g out a.clear)
