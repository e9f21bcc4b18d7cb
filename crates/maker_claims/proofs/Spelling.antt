-- Laws of what specs/Spelling defines.
use Rattle.std.specs.Prelude.{ℕ, zero, suc, ◌+◌, ◌-◌, ◌≤◌, ◌<◌, ◌≡◌, refl, List, [], ◌∷◌, ◌++◌, Bool, true, false, cond, length, drop, ltb, Some, Ok, Err}
use Rattle.std.proofs.Common.{sym, ap, ◌∙◌, arith, length-drop, ltb-true, ltb-false}
use Rattle.decimal.specs.Decimal.{decimal}
use Rattle.maker_lines.specs.Lines.{RowRead, space, line_feed, word_at, then_word, judged_heading, judged_row, heading_in, row_at}
use Rattle.maker_lines.specs.declared.Drive.{Drive}
use Rattle.maker_rows.specs.Rows.{Row, following, Listed, Zones, on_row, rows_from}
use Rattle.maker_lines.proofs.LineWays.{RowFacts}
use Rattle.maker_rows.proofs.RowWays.{row_words, rows_end, rows_more, row_after}
use Rattle.maker.proofs.MakerWays.{heading_words}
use Rattle.maker_claims.specs.Listing.{line_of, row_line, row_lines, FollowOn, turned}
use Rattle.maker_claims.specs.Spelling.{space_ends, feed_ends, word_spelled, line_last, line_next, word_spelling, row_inside, judged_fits, Spelled, spelled_none}

-- three numbers on a line are judged as a row
pub row_spelled : (start : ℕ) (s : List ℕ) (at from last track : ℕ) (rest : List ℕ) → drop at s ≡ line_of (from ∷ last ∷ track ∷ []) ++ rest
    → (next : ℕ) × (row_at start s at ≡ judged_row start from last track next) × (drop next s ≡ rest)
unfolding row_at then_word
row_spelled start s at from last track rest e =
    let one = word_spelled space space_ends s at from (line_of (last ∷ track ∷ []) ++ rest) (e ∙ line_next from last (track ∷ []) rest) in
    let two = word_spelled space space_ends s one.0 last (line_of (track ∷ []) ++ rest) (one.2 ∙ line_next last track [] rest) in
    let three = word_spelled line_feed feed_ends s two.0 track rest (two.2 ∙ line_last track rest) in
    (three.0, rw (one.1, two.1, three.1), three.2)

-- three numbers that are read are written so
pub three_spelling : (s : List ℕ) (at from at₁ last at₂ track next : ℕ) → word_at space s at ≡ Some (from, at₁) → word_at space s at₁ ≡ Some (last, at₂)
    → word_at line_feed s at₂ ≡ Some (track, next)
    → drop at s ≡ line_of (from ∷ last ∷ track ∷ []) ++ drop next s
three_spelling s at from at₁ last at₂ track next one two three =
    word_spelling space s at from at₁ one
    ∙ ap (λ (x : List ℕ). decimal from ++ (space ∷ x))
    (word_spelling space s at₁ last at₂ two
    ∙ ap (λ (x : List ℕ). decimal last ++ (space ∷ x)) (word_spelling line_feed s at₂ track next three ∙ sym (line_last track (drop next s)))
    ∙ sym (line_next last track [] (drop next s)))
    ∙ sym (line_next from last (track ∷ []) (drop next s))

-- a row that is read is written so
pub row_spelling : (start : ℕ) (s : List ℕ) (at last track next : ℕ) → row_at start s at ≡ Ok (last, track, next)
    → drop at s ≡ line_of (start ∷ last ∷ track ∷ []) ++ drop next s
row_spelling start s at last track next e =
    let w = row_words start s at last track next e in
    three_spelling s at start w.at₁ last w.at₂ track next w.one w.two w.three

-- line one
pub heading_spelled : (s : List ℕ) (turns switch heads block : ℕ) (rest : List ℕ) → s ≡ line_of (turns ∷ switch ∷ heads ∷ block ∷ []) ++ rest
    → (next : ℕ) × (heading_in s ≡ judged_heading turns switch heads block next) × (drop next s ≡ rest)
unfolding heading_in then_word
heading_spelled s turns switch heads block rest e =
    let one = word_spelled space space_ends s 0 turns (line_of (switch ∷ heads ∷ block ∷ []) ++ rest) (e ∙ line_next turns switch (heads ∷ block ∷ []) rest) in
    let two = word_spelled space space_ends s one.0 switch (line_of (heads ∷ block ∷ []) ++ rest) (one.2 ∙ line_next switch heads (block ∷ []) rest) in
    let three = word_spelled space space_ends s two.0 heads (line_of (block ∷ []) ++ rest) (two.2 ∙ line_next heads block [] rest) in
    let four = word_spelled line_feed feed_ends s three.0 block rest (three.2 ∙ line_last block rest) in
    (four.0, rw (one.1, two.1, three.1, four.1), four.2)

-- four numbers that are read are written so
pub four_spelling : (s : List ℕ) (turns at₁ switch at₂ heads at₃ block next : ℕ) → word_at space s 0 ≡ Some (turns, at₁) → word_at space s at₁ ≡ Some (switch, at₂)
    → word_at space s at₂ ≡ Some (heads, at₃)
    → word_at line_feed s at₃ ≡ Some (block, next) → s ≡ line_of (turns ∷ switch ∷ heads ∷ block ∷ []) ++ drop next s
four_spelling s turns at₁ switch at₂ heads at₃ block next one two three four =
    word_spelling space s 0 turns at₁ one
    ∙ ap (λ (x : List ℕ). decimal turns ++ (space ∷ x)) (three_spelling s at₁ switch at₂ heads at₃ block next two three four)
    ∙ sym (line_next turns switch (heads ∷ block ∷ []) (drop next s))

pub heading_spelling : (s : List ℕ) (d : Drive) (next : ℕ) → heading_in s ≡ Ok (d, next)
    → s ≡ line_of (d.turns ∷ d.switch ∷ d.heads ∷ d.block ∷ []) ++ drop next s
heading_spelling s d next e =
    let w = heading_words s d next e in
    four_spelling s d.turns w.at₁ d.switch w.at₂ d.heads w.at₃ d.block next w.one w.two w.three w.four

-- ROWS AS THEY ARE WRITTEN ARE READ
pub rows_spelled : (rows : List Row) (s : List ℕ) (at : ℕ) (zs : List Row) → drop at s ≡ row_lines rows → FollowOn (following zs) rows
    → rows_from (length s - at) s at zs ≡ Zones (turned rows zs)
unfolding row_lines row_line turned following
rows_spelled [] s at zs e f = let out : length s ≤ at = omega (arith, length-drop at s, ap length e) in rows_end s at zs out (length s - at)
rows_spelled (z ∷ rows) s at zs e (f, later) =
    let sp = row_spelled (following zs) s at z.first z.last z.track (row_lines rows) e in
    let facts : RowFacts (following zs) z.first z.last z.track =
    record { follows = f.follows; rises = f.rises; near = f.near; tracks = f.tracks } in
    let read = sp.1 ∙ judged_fits (following zs) z.first z.last z.track sp.0 facts in
    let inside = row_inside (following zs) s at z.last z.track sp.0 read in
    rows_more s at zs z.last z.track sp.0 inside read
    ∙ ap (λ (n : ℕ). rows_from (length s - sp.0) s sp.0 (record { first = n; last = z.last; track = z.track } ∷ zs)) (sym f.follows)
    ∙ rows_spelled rows s sp.0 (z ∷ zs) sp.2 later

spelled_more : (s : List ℕ) (at : ℕ) (zs zs' : List Row) (last track next : ℕ) → row_at (following zs) s at ≡ Ok (last, track, next)
    → Spelled s next (record { first = following zs; last = last; track = track } ∷ zs) zs' → Spelled s at zs zs'
unfolding row_lines row_line turned following
spelled_more s at zs zs' last track next e w =
    let f = (row_words (following zs) s at last track next e).facts in
    record {
      rows = record { first = following zs; last = last; track = track } ∷ w.rows;
      text = row_spelling (following zs) s at last track next e ∙ ap (λ (x : List ℕ). line_of (following zs ∷ last ∷ track ∷ []) ++ x) w.text;
      follow = (record { follows = refl; rises = f.rises; near = f.near; tracks = f.tracks }, w.follow);
      zones = w.zones;
    }

-- ROWS THAT ARE READ ARE WRITTEN SO
pub rows_spelling : (left : ℕ) (s : List ℕ) (at : ℕ) (zs zs' : List Row) → length s - at ≤ left → rows_from left s at zs ≡ Zones zs' → Spelled s at zs zs'
unfolding rows_from on_row
rows_spelling zero s at zs zs' h e = spelled_none s at zs zs' (omega arith) e
rows_spelling (suc left) s at zs zs' h e = go (ltb at (length s)) refl e (λ next z. rows_spelling left s next (z ∷ zs) zs')
  where
    Later : Type 0
    Later = (next : ℕ) (z : Row) → length s - next ≤ left → rows_from left s next (z ∷ zs) ≡ Zones zs' → Spelled s next (z ∷ zs) zs'

    more : ℕ → ℕ → ℕ → Listed
    more last track next = rows_from left s next (record { first = following zs; last = last; track = track } ∷ zs)

    on : (r : RowRead) → row_at (following zs) s at ≡ r → at < length s → on_row (length zs + 2) r more ≡ Zones zs' → Later → Spelled s at zs zs'
    on (Err k) q t e later = absurd (let z : ◌≡◌ {A = ℕ} 0 1 = cc in omega arith)
    on (Ok (last, track, next)) q t e later =
        let far = row_after (following zs) s at last track next q in
        spelled_more s at zs zs' last track next q (later next (record { first = following zs; last = last; track = track }) (omega arith) e)

    go : (t : Bool) → ltb at (length s) ≡ t → cond t (on_row (length zs + 2) (row_at (following zs) s at) more) (Zones zs) ≡ Zones zs' → Later
        → Spelled s at zs zs'
    go true t e later = on (row_at (following zs) s at) refl (ltb-true at (length s) t) e later
    go false t e later = spelled_none s at zs zs' (ltb-false at (length s) t) e
