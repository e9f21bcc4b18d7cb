-- What the desk is told of a film, made of the film as it is laid, its worst time and its rates; and that a paced film's supply is lawful.
-- Document 01's film is an instance (`supply_of`), and so is every other whose successive blocks stay within a worst time.
-- Assumes nothing.
use Rattle.std.specs.Prelude.{ℕ, ◌+◌, ◌*◌, ◌-◌, ◌≤◌, ◌<◌, ◌≡◌, true}
use Rattle.std.proofs.Common.{arith}
use Rattle.numbers.specs.Units.{parts}
use Rattle.pacing.specs.Film.{Film, Paced, lead}
use Rattle.pacing.specs.Lead.{lead_closed, lead_law}
use Rattle.pacing.specs.Streams.{load, buffer_of}
use Rattle.rules.specs.Supply.{Supply, Lawful}

-- what a plan says of its film beside the laying: B, c, the overhead of a sweep of so many blocks, the fetch entries of a block, n,
-- margin and buffer
pub record Rates : Type 0 where
  pub B : ℕ
  pub c : ℕ
  pub overhead : ℕ → ℕ
  pub visits : ℕ
  pub n : ℕ
  pub margin : ℕ
  pub buffer : ℕ

module _ {A : Type 0} (film : Film A) (w : ℕ) (r : Rates) where
  -- THE SUPPLY of a film whose successive blocks take at most w
  abbrev pub supplied : Supply A
  supplied = record {
    none = film.none;
    is_none = film.is_none;
    is_block = film.is_block;
    fault = film.fault;
    is_end = film.is_end;
    next = film.next;
    number = film.number;
    position = film.position;
    others = film.others;
    time = film.time;
    lead = lead film w;
    overhead = r.overhead;
    visits = r.visits;
    B = r.B;
    c = r.c;
    n = r.n;
    pair_time = w;
    margin = r.margin;
    buffer = r.buffer;
  }

  -- the rates are within the formulas of streams, margin and buffer; m is the greatest time of a block
  pub record Rated (m : ℕ) : Type 0 where
    pub bytes : 0 < r.B
    pub rises : (j k : ℕ) → j ≤ k → r.overhead j ≤ r.overhead k
    pub fits : load r.c w r.overhead r.n ≤ parts * r.B
    pub margin : 2 * m - w ≤ r.margin
    pub buffer : buffer_of r.c r.n r.margin r.B ≤ r.buffer

  -- A PACED FILM'S SUPPLY IS LAWFUL
  pub paced_lawful : (m : ℕ) → Paced film w m → Rated m → Lawful supplied
  unfolding load buffer_of
  paced_lawful m ok rated = record {
    some_bytes = rated.bytes;
    overhead_rises = rated.rises;
    streams_fit = rated.fits;
    buffer_holds = rated.buffer;
    next_block = ok.goes;
    lead_covers = lead_law film w m ok;
    lead_top = λ a e. omega (arith, lead_closed film w m ok a e, ok.slow a e, rated.margin);
  }
