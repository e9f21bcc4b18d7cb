-- Laws of what specs/Refused defines.
use Prim.Native.Nat.{ℕ, zero, suc, ◌+◌, ◌<◌}
use Rattle.std.proofs.Math.Path.{◌≡◌, refl, sym, ap}
use Rattle.std.proofs.Common.{ap₂, ◌∙◌, inl, arith, ltb-true}
use Rattle.std.specs.Prelude.{◌⊎◌, Bool, true, false, cond, ltb, Some, Ok, Err}
use Rattle.std.proofs.Math.Logic.{inr}
use mathlib.Core.List.{List, [], ◌∷◌, ◌++◌, append_assoc}
use Rattle.std.proofs.Math.ListN.{length, drop, length-drop}
use Rattle.laws.specs.Bools.{clash}
use Rattle.numbers.specs.Refusals.{line_form}
use Rattle.card.specs.declared.Verdict.{Verdict}
use Rattle.card.specs.Card.{record_fault}
use Rattle.maker_lines.specs.declared.Drive.{Drive}
use Rattle.maker_lines.specs.Lines.{Heading, RowRead, space, line_feed, word_at, then_word, judged_heading, judged_row, heading_in, row_at}
use Rattle.maker_rows.specs.Rows.{Row, following, Listed, Zones, Refused, on_row, rows_from}
use Rattle.maker.specs.Maker.{figures_of, refused_text, answered, judged_figures, on_rows, on_heading, read_maker}
use Rattle.maker_lines.proofs.LineWays.{facts_row, HeadingFacts, facts_heading}
use Rattle.maker_rows.proofs.RowWays.{row_words}
use Rattle.maker.proofs.MakerWays.{heading_words}
use Rattle.maker_claims.specs.Listing.{line_of, heading_line, row_line, row_lines, text_of, DriveInRange, turned, innermost_first}
use Rattle.maker_claims.proofs.Spelling.{three_spelling, four_spelling, row_spelled, row_spelling, heading_spelled, heading_spelling, rows_spelling}
use Rattle.maker_claims.specs.Fault.{HeadingFault, RowFault, FaultAfter, FaultOfFigures, Fault}
use Rattle.maker_claims.specs.Refused.{refused_heading, refused_row, judged_out, then_ways, judged_off, RowsFault, fault_here}

row_form : (start : ℕ) (s : List ℕ) (at : ℕ) → row_at start s at ≡ Err line_form → (z : Row) (rest : List ℕ) → drop at s ≡ row_line z ++ rest → ⊥
unfolding row_line
row_form start s at e z rest q =
    let sp = row_spelled start s at z.first z.last z.track rest q in
    omega (arith, (judged_out start z.first z.last z.track sp.0 line_form (sym sp.1 ∙ e)).0)

pub row_fault_law : (start : ℕ) (s : List ℕ) (at k : ℕ) → row_at start s at ≡ Err k → RowFault start (drop at s) k
unfolding row_at
row_fault_law start s at k e = one (then_ways (word_at space s at) _ _ e)
  where
    form : refused_row line_form ≡ refused_row k → RowFault start (drop at s) k
    form q = let same : line_form ≡ k = cc in inl (sym same, row_form start s at (e ∙ ap refused_row (sym same)))

    range : (from at₁ last at₂ track next : ℕ) → word_at space s at ≡ Some (from, at₁) → word_at space s at₁ ≡ Some (last, at₂)
        → word_at line_feed s at₂ ≡ Some (track, next)
        → judged_row start from last track next ≡ Err k → RowFault start (drop at s) k
    range from at₁ last at₂ track next a b c q =
        let out = judged_out start from last track next k q in
        inr (
          out.0,
          record { first = from; last = last; track = track },
          drop next s,
          (unfold row_line in three_spelling s at from at₁ last at₂ track next a b c),
          λ r. clash (facts_row start from last track (record { follows = r.follows; rises = r.rises; near = r.near; tracks = r.tracks })) out.1,
        )

    three : (from at₁ last at₂ : ℕ) → word_at space s at ≡ Some (from, at₁) → word_at space s at₁ ≡ Some (last, at₂)
        → (refused_row line_form ≡ refused_row k) ⊎ ((v : ℕ) × (next : ℕ) × (word_at line_feed s at₂ ≡ Some (v, next))
        × (judged_row start from last v next ≡ Err k)) → RowFault start (drop at s) k
    three from at₁ last at₂ a b (inl q) = form q
    three from at₁ last at₂ a b (inr (track, next, c, q)) = range from at₁ last at₂ track next a b c q

    two : (from at₁ : ℕ) → word_at space s at ≡ Some (from, at₁)
        → (refused_row line_form ≡ refused_row k) ⊎ ((v : ℕ) × (next : ℕ) × (word_at space s at₁ ≡ Some (v, next))
        × (then_word (word_at line_feed s next) (Err line_form) (λ track after. judged_row start from v track after) ≡ Err k))
        → RowFault start (drop at s) k
    two from at₁ a (inl q) = form q
    two from at₁ a (inr (last, at₂, b, q)) = three from at₁ last at₂ a b (then_ways (word_at line_feed s at₂) _ _ q)

    one : (refused_row line_form ≡ refused_row k) ⊎ ((v : ℕ) × (next : ℕ) × (word_at space s at ≡ Some (v, next))
        × (then_word (word_at space s next) (Err line_form)
        (λ last at₂. then_word (word_at line_feed s at₂) (Err line_form) (λ track after. judged_row start v last track after)) ≡ Err k))
        → RowFault start (drop at s) k
    one (inl q) = form q
    one (inr (from, at₁, a, q)) = two from at₁ a (then_ways (word_at space s at₁) _ _ q)

heading_form : (s : List ℕ) → heading_in s ≡ Err line_form → (d : Drive) (rest : List ℕ) → s ≡ heading_line d ++ rest → ⊥
unfolding heading_line
heading_form s e d rest q =
    let sp = heading_spelled s d.turns d.switch d.heads d.block rest q in
    omega (arith, (judged_off d.turns d.switch d.heads d.block sp.0 line_form (sym sp.1 ∙ e)).0)

pub heading_fault_law : (s : List ℕ) (k : ℕ) → heading_in s ≡ Err k → HeadingFault s k
unfolding heading_in
heading_fault_law s k e = one (then_ways (word_at space s 0) _ _ e)
  where
    form : refused_heading line_form ≡ refused_heading k → HeadingFault s k
    form q = let same : line_form ≡ k = cc in inl (sym same, heading_form s (e ∙ ap refused_heading (sym same)))

    range : (turns at₁ switch at₂ heads at₃ block next : ℕ) → word_at space s 0 ≡ Some (turns, at₁) → word_at space s at₁ ≡ Some (switch, at₂)
        → word_at space s at₂ ≡ Some (heads, at₃)
        → word_at line_feed s at₃ ≡ Some (block, next) → judged_heading turns switch heads block next ≡ Err k → HeadingFault s k
    range turns at₁ switch at₂ heads at₃ block next a b c d q =
        let out = judged_off turns switch heads block next k q in
        inr (
          out.0,
          record { turns = turns; switch = switch; heads = heads; block = block },
          drop next s,
          (unfold heading_line in four_spelling s turns at₁ switch at₂ heads at₃ block next a b c d),
          λ r. clash (facts_heading turns switch heads block
              (record { turns_in = r.turns; switch_in = r.switch; heads_in = r.heads; block_in_law = r.block })) out.1,
        )

    four : (turns at₁ switch at₂ heads at₃ : ℕ) → word_at space s 0 ≡ Some (turns, at₁) → word_at space s at₁ ≡ Some (switch, at₂)
        → word_at space s at₂ ≡ Some (heads, at₃)
        → (refused_heading line_form ≡ refused_heading k) ⊎ ((v : ℕ) × (next : ℕ) × (word_at line_feed s at₃ ≡ Some (v, next))
        × (judged_heading turns switch heads v next ≡ Err k)) → HeadingFault s k
    four turns at₁ switch at₂ heads at₃ a b c (inl q) = form q
    four turns at₁ switch at₂ heads at₃ a b c (inr (block, next, d, q)) = range turns at₁ switch at₂ heads at₃ block next a b c d q

    three : (turns at₁ switch at₂ : ℕ) → word_at space s 0 ≡ Some (turns, at₁) → word_at space s at₁ ≡ Some (switch, at₂)
        → (refused_heading line_form ≡ refused_heading k) ⊎ ((v : ℕ) × (next : ℕ) × (word_at space s at₂ ≡ Some (v, next))
        × (then_word (word_at line_feed s next) (Err line_form) (λ block after. judged_heading turns switch v block after) ≡ Err k))
        → HeadingFault s k
    three turns at₁ switch at₂ a b (inl q) = form q
    three turns at₁ switch at₂ a b (inr (heads, at₃, c, q)) = four turns at₁ switch at₂ heads at₃ a b c (then_ways (word_at line_feed s at₃) _ _ q)

    two : (turns at₁ : ℕ) → word_at space s 0 ≡ Some (turns, at₁)
        → (refused_heading line_form ≡ refused_heading k) ⊎ ((v : ℕ) × (next : ℕ) × (word_at space s at₁ ≡ Some (v, next))
        × (then_word (word_at space s next) (Err line_form)
        (λ heads at₃. then_word (word_at line_feed s at₃) (Err line_form) (λ block after. judged_heading turns v heads block after))
        ≡ Err k))
        → HeadingFault s k
    two turns at₁ a (inl q) = form q
    two turns at₁ a (inr (switch, at₂, b, q)) = three turns at₁ switch at₂ a b (then_ways (word_at space s at₂) _ _ q)

    one : (refused_heading line_form ≡ refused_heading k) ⊎ ((v : ℕ) × (next : ℕ) × (word_at space s 0 ≡ Some (v, next))
        × (then_word (word_at space s next) (Err line_form) (λ switch at₂. then_word (word_at space s at₂) (Err line_form) (λ heads at₃.
        then_word (word_at line_feed s at₃) (Err line_form) (λ block after. judged_heading v switch heads block after))) ≡ Err k))
        → HeadingFault s k
    one (inl q) = form q
    one (inr (turns, at₁, a, q)) = two turns at₁ a (then_ways (word_at space s at₁) _ _ q)

fault_later : (s : List ℕ) (at : ℕ) (zs : List Row) (k line last track next : ℕ) → row_at (following zs) s at ≡ Ok (last, track, next)
    → RowsFault s next (record { first = following zs; last = last; track = track } ∷ zs) k line → RowsFault s at zs k line
unfolding row_lines row_line turned following
fault_later s at zs k line last track next e w =
    let f = (row_words (following zs) s at last track next e).facts in
    record {
      rows = record { first = following zs; last = last; track = track } ∷ w.rows;
      stop = w.stop;
      text = row_spelling (following zs) s at last track next e ∙ ap (λ (x : List ℕ). line_of (following zs ∷ last ∷ track ∷ []) ++ x) w.text
          ∙ sym (append_assoc (line_of (following zs ∷ last ∷ track ∷ [])) (row_lines w.rows) (drop w.stop s));
      inside = w.inside;
      follow = (record { follows = refl; rises = f.rises; near = f.near; tracks = f.tracks }, w.follow);
      counted = omega (arith, w.counted);
      fault = w.fault;
    }

rows_fault : (left : ℕ) (s : List ℕ) (at : ℕ) (zs : List Row) (k line : ℕ) → rows_from left s at zs ≡ Refused k line → RowsFault s at zs k line
unfolding rows_from on_row
rows_fault zero s at zs k line e = absurd (let z : ◌≡◌ {A = ℕ} 0 1 = cc in omega arith)
rows_fault (suc left) s at zs k line e = go (ltb at (length s)) refl e (λ next z. rows_fault left s next (z ∷ zs) k line)
  where
    Later : Type 0
    Later = (next : ℕ) (z : Row) → rows_from left s next (z ∷ zs) ≡ Refused k line → RowsFault s next (z ∷ zs) k line

    more : ℕ → ℕ → ℕ → Listed
    more last track next = rows_from left s next (record { first = following zs; last = last; track = track } ∷ zs)

    on : (r : RowRead) → row_at (following zs) s at ≡ r → at < length s → on_row (length zs + 2) r more ≡ Refused k line → Later → RowsFault s at zs k line
    on (Err j) q t e later = let same : j ≡ k = cc in let counted : length zs + 2 ≡ line = cc in
        fault_here s at zs k line t (sym counted) (q ∙ ap refused_row same)
    on (Ok (last, track, next)) q t e later =
        fault_later s at zs k line last track next q (later next (record { first = following zs; last = last; track = track }) e)

    go : (t : Bool) → ltb at (length s) ≡ t → cond t (on_row (length zs + 2) (row_at (following zs) s at) more) (Zones zs) ≡ Refused k line → Later
        → RowsFault s at zs k line
    go true t e later = on (row_at (following zs) s at) refl (ltb-true at (length s) t) e later
    go false t e later = absurd (let z : ◌≡◌ {A = ℕ} 0 1 = cc in omega arith)

-- ---- the claim

module _ (s : List ℕ) (n c hop ret k line : ℕ) where
  in_range : (d : Drive) → HeadingFacts d.turns d.switch d.heads d.block → DriveInRange d
  in_range d f = record { turns = f.turns_in; switch = f.switch_in; heads = f.heads_in; block = f.block_in_law }

  -- a row at fault, after line one and good rows
  after_rows : (d : Drive) (next : ℕ) → heading_in s ≡ Ok (d, next)
      → rows_from (length s) s next [] ≡ Refused (suc k) line → FaultAfter s (suc k) line
  unfolding text_of heading_line innermost_first following
  after_rows d next p q =
      let w = rows_fault (length s) s next [] (suc k) line q in
      record {
        drive = d;
        rows = w.rows;
        left = drop w.stop s;
        text = heading_spelling s d next p ∙ ap (λ (x : List ℕ). heading_line d ++ x) w.text
            ∙ sym (append_assoc (heading_line d) (row_lines w.rows) (drop w.stop s));
        some = λ e. omega (arith, w.inside, length-drop w.stop s, ap length e);
        good = (in_range d (heading_words s d next p).facts, w.follow);
        counted = omega (arith, w.counted);
        fault = row_fault_law (following (turned w.rows [])) s w.stop (suc k) w.fault;
      }

  -- all lines are good
  of_figures : (d : Drive) (next : ℕ) (zs : List Row) → heading_in s ≡ Ok (d, next)
      → rows_from (length s) s next [] ≡ Zones zs
      → record_fault 1 (figures_of d zs n c hop ret) ≡ suc k → FaultOfFigures s n c hop ret (suc k)
  unfolding text_of heading_line innermost_first following
  of_figures d next zs p q f =
      let sp = rows_spelling (length s) s next [] zs (omega arith) q in
      record {
        drive = d;
        rows = sp.rows;
        text = heading_spelling s d next p ∙ ap (λ (x : List ℕ). heading_line d ++ x) sp.text;
        good = (in_range d (heading_words s d next p).facts, sp.follow);
        fault = ap (λ (z : List Row). record_fault 1 (figures_of d z n c hop ret)) sp.zones ∙ f;
      }

  -- WHY A TEXT IS REFUSED
  pub refused_fault : (read_maker s n c hop ret).verdict ≡ record { number = suc k; place = line } → Fault s n c hop ret (suc k) line
  unfolding read_maker on_heading on_rows judged_figures answered refused_text
  refused_fault e = on (heading_in s) refl e
    where
      judged : (d : Drive) (next : ℕ) (zs : List Row) → heading_in s ≡ Ok (d, next)
          → rows_from (length s) s next [] ≡ Zones zs
          → (j : ℕ) → record_fault 1 (figures_of d zs n c hop ret) ≡ j
          → (answered j (figures_of d zs n c hop ret)).verdict ≡ record { number = suc k; place = line }
          → Fault s n c hop ret (suc k) line
      judged d next zs p q zero f v = absurd (let z : ◌≡◌ {A = ℕ} 0 (suc k) = ap (λ (x : Verdict). x.number) v in omega arith)
      judged d next zs p q (suc j) f v =
          let same : suc j ≡ suc k = ap (λ (x : Verdict). x.number) v in
          let none : 0 ≡ line = ap (λ (x : Verdict). x.place) v in
          inr (inr (sym none, of_figures d next zs p q (f ∙ same)))

      rows : (d : Drive) (next : ℕ) → heading_in s ≡ Ok (d, next) → (L : Listed)
          → rows_from (length s) s next [] ≡ L
          → (on_rows d n c hop ret L).verdict ≡ record { number = suc k; place = line } → Fault s n c hop ret (suc k) line
      rows d next p (Zones zs) q v = judged d next zs p q (record_fault 1 (figures_of d zs n c hop ret)) refl v
      rows d next p (Refused j l) q v =
          let same : j ≡ suc k = ap (λ (x : Verdict). x.number) v in
          let there : l ≡ line = ap (λ (x : Verdict). x.place) v in
          inr (inl (after_rows d next p (q ∙ ap₂ Refused same there)))

      on : (h : Heading) → heading_in s ≡ h → (on_heading s n c hop ret h).verdict ≡ record { number = suc k; place = line } → Fault s n c hop ret (suc k) line
      on (Err j) q v =
          let same : j ≡ suc k = ap (λ (x : Verdict). x.number) v in
          let there : 1 ≡ line = ap (λ (x : Verdict). x.place) v in
          inl (sym there, heading_fault_law s (suc k) (q ∙ ap refused_heading same))
      on (Ok (d, next)) q v = rows d next q (rows_from (length s) s next []) refl v
