use borrow.Author.Tests.{ne_eqb}
use Rattle.std.proofs.Common.{ℕ, ◌≡◌, sym, ap, ◌∙◌, not, get_or}
use Rattle.words.specs.Words.{words_of}
use Rattle.card.specs.Card.{length_in}
use Rattle.pacing.specs.Shelf.{film_in, block_in}
use Rattle.desk_layout.specs.Layout.{desk_in}
use Rattle.soundness.specs.Facts.{TidyWithin, WellNamed}
use Rattle.soundness.proofs.Named.{film_is_tidy, tidy_is_film, shelf_is_tidy, tidy_is_shelf}
use Rattle.soundness.proofs.Tells.{none_set, both_unset}
use Rattle.soundness.proofs.slots.untidy_at.Goals as goal

pub returns-then-this-ne0 : goal.returns-then-this-ne0
returns-then-this-ne0 g c =
    let d = desk_in (words_of c.args.desk.now) in
    let i = c.args.i in
    let T = TidyWithin d.plan.showing c.length_in.result d.plan.buffer (get_or d.kinds i 0) (get_or d.next i 0) (get_or d.held i 0) in
    let slot : (c.untidy.result ≡ 0 → T) × (T → c.untidy.result ≡ 0) =
    rw (sym c.buffer_in-buffer.ensures, sym c.kind_in-kind.ensures, sym c.next_in-name.ensures, sym c.held_in-held.ensures)
    (c.untidy.ensures _ c.requires.last)
    in
    let one = c.requires.shelf.alone (ap not (ne_eqb g.row.ONE_FILM 0 c.if-this-ne0.true)) in
    (λ e. film_is_tidy _ one c.length_in.ensures (slot.0 e), λ t. slot.1 (tidy_is_film _ one c.length_in.ensures t))

pub returns : goal.returns
returns g c =
    let d = desk_in (words_of c.args.desk.now) in
    let k = get_or d.kinds c.args.i 0 in
    let a = get_or d.next c.args.i 0 in
    let T = TidyWithin d.plan.showing (length_in d.plan.figures (film_in a)) d.plan.buffer k (block_in a) (get_or d.held c.args.i 0) in
    let W = WellNamed d.plan.figures.films k a in
    let length : c.film_length-blocks.result ≡ length_in d.plan.figures (film_in a) =
    c.film_length-blocks.ensures ∙ ap (λ (x : ℕ). length_in d.plan.figures (film_in x)) c.next_in-name.ensures
    in
    let slot : (c.untidy-2.result ≡ 0 → T) × (T → c.untidy-2.result ≡ 0) =
    rw (
      sym length,
      sym c.buffer_in-buffer.ensures,
      sym c.kind_in-kind.ensures,
      sym c.next_in-name.ensures,
      sym c.held_in-held.ensures,
    ) (c.untidy-2.ensures _ c.requires.last)
    in
    let name : (c.misnamed.result ≡ 0 → W) × (W → c.misnamed.result ≡ 0) =
    rw (sym c.films_in.ensures, sym c.kind_in-kind.ensures, sym c.next_in-name.ensures) c.misnamed.ensures
    in (
      λ e. let y = both_unset {a = c.untidy-2.result} {b = c.misnamed.result} e in shelf_is_tidy d.plan.figures (slot.0 y.0) (name.0 y.1),
      λ t. let y = tidy_is_shelf d.plan.figures c.requires.shelf.some t in none_set (slot.1 y.0) (name.1 y.1),
    )
