-- What is told of a card while it is read, and the card that it ends.
-- Assumes nothing.
use Rattle.std.specs.Prelude.{ℕ, ◌≡◌, List, Result, Ok, Err}
use Rattle.std.proofs.Common.{sym}
use Rattle.std.proofs.Math.Path.{ap}
use Rattle.card.specs.declared.Figures.{Figures}
use Rattle.card.specs.declared.CardRead.{CardRead}
use Rattle.numbers.specs.declared.refusals.Refused as placed
use Rattle.numbers.specs.Numbered.{number_of}
use Rattle.card_field.specs.Figure.{Field}
use Rattle.card.specs.Read.{accepted, refused_card, then_field, figures_from}
use Rattle.card_reader.specs.declared.Told.{Told}
use Rattle.card_reader.specs.declared.Told.TheVariants as told

abbrev pub accepted_card : Figures → CardRead
accepted_card f = record { verdict = accepted; figures = f }

-- the figures that are told, with the positions, times, films and overheads that were read into arrays
abbrev pub told_figures : List ℕ → List ℕ → List ℕ → List ℕ → ℕ → ℕ → ℕ → ℕ → ℕ → Figures
told_figures ps ts ns os kind z films b c =
    figures_from (record { kind = kind; zones = z; films = films; blocks = ns; bytes = b; rate = c }) ps ts os

-- the answer of the code, over numbers
abbrev pub told_in : Result (ℕ × ℕ × ℕ × ℕ × ℕ) placed.Refused → Told
told_in (Ok p) = told.Figures p.0 p.1 p.2 p.3 p.4
told_in (Err e) = told.Refused (number_of e.refusal) e.place

-- THE CARD THAT IS TOLD: with these figures, or refused
unfoldable pub told_card : List ℕ → List ℕ → List ℕ → List ℕ → Told → CardRead
told_card ps ts ns os (told.Figures kind z films b c) = accepted_card (told_figures ps ts ns os kind z films b c)
told_card ps ts ns os (told.Refused k at) = refused_card k at

module _ (ps ts ns os : List ℕ) {T : Told} where
  pub told_refused : {k o : ℕ} → T ≡ told.Refused k o → refused_card k o ≡ told_card ps ts ns os T
  unfolding told_card
  told_refused e = ap (told_card ps ts ns os) (sym e)

  pub told_figures_law : {kind z films b c : ℕ} → T ≡ told.Figures kind z films b c
      → accepted_card (told_figures ps ts ns os kind z films b c) ≡ told_card ps ts ns os T
  unfolding told_card
  told_figures_law e = ap (told_card ps ts ns os) (sym e)

-- what follows numbers in a row that were read into a list, with the last one's answer or the refusal
abbrev pub row_with : List ℕ → Field → (List ℕ → ℕ → CardRead) → CardRead
row_with vs x go = then_field x (λ v next. go vs next)

-- what follows zones, with their positions and times, and P or the refusal
abbrev pub zones_with : List ℕ → List ℕ → Field → (List ℕ → List ℕ → ℕ → ℕ → CardRead) → CardRead
zones_with ps ts x go = then_field x (go ps ts)

-- what follows the films, with N of each, and their number or the refusal
abbrev pub shelf_with : List ℕ → Field → (ℕ → List ℕ → ℕ → CardRead) → CardRead
shelf_with ns x go = then_field x (λ films next. go films ns next)
