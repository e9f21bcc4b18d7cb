-- So many of the line are granted, and the mark has their leads.
use Rattle.std.proofs.Common.{ℕ, ◌+◌, ◌*◌, ◌≡◌, ◌≤◌, List, length}
use Rattle.words.specs.Words.{words_of}
use Rattle.numbers.specs.Limits.{max_rate}
use Rattle.rules.specs.Supply.{Supply}
use Rattle.desk.specs.Shown.{Slots}
use Rattle.desk_layout.specs.Layout.{desk_in}
use Rattle.floor.specs.Floor.{most_lead}
use Rattle.grants.specs.Grants.{most_floor, leads_by_slot, Asks}
use Rattle.grants.specs.Line.{Lined}
use Rattle.grants.proofs.Granting.{Granted}
use Rattle.grants.proofs.grant_asked.Given as goal

-- no lead costs more
abbrev pub most_cost : ℕ
most_cost = max_rate * most_lead

pub record Granting (kinds₀ line : List ℕ) (count : ℕ) (g : ℕ → ℕ) (rate floor level : ℕ) (kinds : List ℕ) (mark granted : ℕ) : Type 0 where
  pub long : length kinds ≡ 256
  pub most : mark ≤ most_floor + granted * most_cost
  pub so_far : (p : Supply ℕ) (n : ℕ) (xs hs qs : List ℕ) (w : Slots p n kinds₀ xs hs) (a : Asks p rate floor level g kinds₀ xs hs qs) (o : Lined qs line count)
      → Granted p rate floor level g n kinds₀ xs hs qs line count w a o kinds mark granted

abbrev pub invariant-loop-granted : goal.invariant-loop-granted
invariant-loop-granted l =
    let d = desk_in (words_of l.desk) in
    Granting l.fn.kinds l.line l.count (leads_by_slot l.listed d l.positions l.leads) d.plan.figures.rate l.floor l.level l.kinds l.mark l.granted
