use mathlib.Core.Path.{refl}
use borrow.Author.Rules.{rules}
use Rattle.sweep_strings.proofs.Written.{kinds_then_places}
use Rattle.sweep_strings.proofs.write_begun.Statement.{statement}
use Rattle.sweep_strings.proofs.write_begun.Tie as tie

abbrev known : tie.After-write_entries → tie.After-slice_known-1
known c = c.before.before.before.before.before.before.before

put-places-requires : tie.Need-put_places-requires
put-places-requires c κs = search rules

returns : tie.Need-returns
returns c =
    let q = c in
    let k = c in
    let w = c in
    let s = (known c.before.before.before.before.before.before.before.before.before.before.before.before.before).before in
    let places = q.put_places.ensures in
    let kinds = k.put_kinds.ensures in (
      refl,
      kinds_then_places s.args.desk.now _ _ _ (known c.before.before.before.before.before.before.before.before.before.before.before.before.before).slice_known-1.given s.requires.1 places.1 places.0 _ _ kinds.1 kinds.0,
      w.write_entries.ensures,
    )

pub write_begun_spec : {M : Type 1} → statement M
write_begun_spec =
    tie.close
    (tie.spec
    (λ c. search rules)
    (λ c κs. search rules)
    (λ c κs. search rules)
    put-places-requires
    (λ c. search rules)
    (λ c. search rules)
    returns)
