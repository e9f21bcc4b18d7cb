-- Records that the calls of the desk answer.
-- Assumes nothing.
use Rattle.std.specs.Prelude.{ℕ, ◌≡◌, List, [], set}
use Rattle.plan.specs.declared.Plan.{Plan}
use Rattle.desk.specs.declared.Desk.{Desk}
use Rattle.desk.specs.declared.Answer.{Answer}
use Rattle.desk.specs.declared.Begun.{Begun}
use Rattle.desk.specs.Desk.{verdict, fetches_of}

-- the record of a plan, a phase and the kinds, next blocks, held bytes and places of its slots
abbrev pub record_of : Plan → ℕ → List ℕ → List ℕ → List ℕ → List ℕ → Desk
record_of p phase ks xs hs qs = record { plan = p; phase = phase; kinds = ks; next = xs; held = hs; places = qs }

-- a record with B, c, n, the buffer, the table of overheads and the slots as they were read of it
abbrev pub with_read : Desk → ℕ → ℕ → ℕ → ℕ → List ℕ → List ℕ → List ℕ → List ℕ → List ℕ → Desk
with_read d bytes rate streams buffer table ks xs hs qs =
    let p = d.plan in
    let f = p.figures in
    record {
      plan = record {
        figures = record {
          kind = f.kind;
          zones = f.zones;
          positions = f.positions;
          times = f.times;
          films = f.films;
          blocks = f.blocks;
          bytes = bytes;
          rate = rate;
          table = table;
        };
        streams = streams;
        buffer = buffer;
        worst2 = p.worst2;
        margin = p.margin;
        showing = p.showing;
        worstat = p.worstat;
      };
      phase = d.phase;
      kinds = ks;
      next = xs;
      held = hs;
      places = qs;
    }

-- that is the record
pub read_same : (d : Desk) {b c n m : ℕ} {os ks xs hs qs : List ℕ} → b ≡ d.plan.figures.bytes → c ≡ d.plan.figures.rate → n ≡ d.plan.streams
    → m ≡ d.plan.buffer
    → os ≡ d.plan.figures.table → ks ≡ d.kinds → xs ≡ d.next → hs ≡ d.held → qs ≡ d.places
    → with_read d b c n m os ks xs hs qs ≡ d
read_same d b c n m os ks xs hs qs = λ t. with_read d (b t) (c t) (n t) (m t) (os t) (ks t) (xs t) (hs t) (qs t)

-- an answer
abbrev pub answers : Desk → ℕ → ℕ → Answer
answers d k i = record { verdict = verdict k i; desk = d }

-- a record in which slot i has a kind and a next block and holds nothing, with the places qs
unfoldable pub with_slot : Desk → ℕ → ℕ → ℕ → List ℕ → Desk
with_slot d i k x qs = record {
  plan = d.plan;
  phase = d.phase;
  kinds = set d.kinds i k;
  next = set d.next i x;
  held = set d.held i 0;
  places = qs;
}

-- a begin that is refused: the desk it was given, no fetches and no bound
unfoldable pub not_begun : Desk → ℕ → Begun
not_begun d k = record { verdict = verdict k 0; desk = d; bound = 0; fetches = fetches_of [] }
