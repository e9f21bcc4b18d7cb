use Rattle.std.proofs.Common.{rules, ℕ, ◌/◌, ◌≡◌, length, sym, ap, ◌∙◌}
use mathlib.Core.Path.{subst}
use Rattle.words.specs.Words.{words_of}
use Rattle.plan.specs.Scratch.{leads_by}
use Rattle.desk.specs.declared.Begun.{Begun}
use Rattle.desk.specs.Desk.{begin_desk}
use Rattle.scheduler.proofs.Fetching.{Fit, fetched, begun_fits, begun_list}
use Rattle.scheduler.proofs.begun_into.Goals as goal

pub put_fetches-requires : goal.put_fetches-requires
put_fetches-requires c =
    let a = c.args in
    let ls = leads_by a.listed a.desk.plan a.leads.now in
    let e : c.begun-answer.result ≡ begin_desk a.desk a.positions.now ls (length (words_of a.fetches.now) / 3) =
    c.begun-answer.ensures ∙ ap (λ (k : ℕ). begin_desk a.desk a.positions.now ls (k / 3)) c.entries-room.ensures in
    subst (λ (x : Begun). Fit x a.fetches.now) (sym e)
    (begun_fits a.desk (record { kinds = search rules; next = search rules; held = search rules; places = search rules })
    (search rules, search rules, search rules, search rules) _ _ _)

pub returns : goal.returns
returns c =
    let a = c.args in
    let ls = leads_by a.listed a.desk.plan a.leads.now in
    let e : c.begun-answer.result ≡ begin_desk a.desk a.positions.now ls (length (words_of a.fetches.now) / 3) =
    c.begun-answer.ensures ∙ ap (λ (k : ℕ). begin_desk a.desk a.positions.now ls (k / 3)) c.entries-room.ensures in (
      e,
      c.put_fetches.ensures ∙ ap (λ (x : Begun). fetched x a.fetches.now) e
          ∙ begun_list a.desk (record { kinds = search rules; next = search rules; held = search rules; places = search rules })
          (search rules, search rules, search rules, search rules) _ _ _,
    )
