-- EVERY LIST OF BLOCKS HAS A RUN: from a fresh register, whatever the lent columns and the buffers hold, there is, call after call, what meets
-- what the called function ensures, until all blocks are fed, the input has ended and no line is left. So what is shown of every run of a
-- script in blocks is shown of every script, and no contract asks for what can't be.
use Rattle.std.proofs.Common.{◌≡◌, ℕ, zero, suc, ◌+◌, ◌*◌, ◌<◌, ◌≤◌, Bool, true, false, cond, ltb, ◌⊎◌, List, [], ◌∷◌, ◌++◌, length, take, drop, sym, refl, ap, ◌∙◌, subst, inl, inr, ⊎_elim, append_assoc, append-nil, arith, length-append, length-drop, length-set, length-take, length-take-le, take_at, ltb-true, le-leb}
use lib.Seq.{sets, length-sets}
use Rattle.lists.proofs.Tests.{by_test, and_right}
use Rattle.lists.proofs.All.{All, all_none, all_more}
use Rattle.notification.specs.Reading.{lines_in, read_file}
use Rattle.std.specs.Prelude.{Option, Some, None}
use Rattle.ledger.specs.Ledger.{fresh}
use Rattle.tables.specs.Tables.{Columns, LoadColumns}
use Rattle.register.specs.View.{held}
use Rattle.register.specs.View.{lent}
use Rattle.register.specs.declared.Fresh.{Fresh}
use Rattle.register.proofs.Runs.{Begun, begun_is}
use Rattle.register.proofs.Sized.{LoadsSized, RecordsSized, Sized, ref_mut}
use Rattle.register.proofs.RunsExist.{fresh_sized}
use Rattle.script.specs.Spans.{cut}
use Rattle.lines.specs.Scripts.{Found, lines_of, joined, Files, printed}
use Rattle.session.specs.Lines.{File}
use Rattle.lines.specs.Walking.{held_of, is_last, ended, ended_at, Walked, walk}
use Rattle.lines.specs.declared.answering.Wants.{Wants}
use Rattle.lines.specs.declared.answering.Wants.TheVariants as Want
use Rattle.lines.specs.declared.answering.Wants.TheVariants.{Input, Room}
use Rattle.lines.proofs.LinesFit.{Early, early_fresh}
use Rattle.lines.proofs.WalksExist.{Goes, room_fee, left, walk_goes, walked_on, walk_exists}
use Rattle.lines.proofs.Blocks.{Held, holds, Ended, ends, Went, Standing, block, walked, reads, further, writes, Reads, Ran, starts, fed, found, wrote, went, closed}
use Rattle.lines.proofs.Whole.{most, out_of, script_in_blocks}

-- ---- where a run may stand

-- the arrays have their places, what is unread and what waits lie in the buffers, and these are long enough
pub record Fit (long : ℕ) (s : Standing) : Type 0 where
  pub sized : Sized s.register
  pub early : Early (held s.register)
  pub reached : s.at ≤ length (block s)
  pub waits : s.out ≤ length s.output
  pub roomy : 64 ≤ length s.output
  pub as_long : length s.input ≡ long

fit_writes : {long : ℕ} {s : Standing} → Fit long s → Fit long (writes s)
fit_writes f =
    record { sized = f.sized; early = f.early; reached = f.reached; waits = omega arith; roomy = f.roomy; as_long = f.as_long }

fit_reads : {long : ℕ} {s : Standing} → Fit long s → (input : List ℕ) (end : ℕ) → length input ≡ long → Fit long (reads s input end)
fit_reads f input end e =
    record { sized = f.sized; early = f.early; reached = omega arith; waits = f.waits; roomy = f.roomy; as_long = e }

-- what the file that is found under a name is read as
abbrev file_there : List ℕ → Found → File
file_there name there = cond there.readable (Some (read_file name there.body)) None

there_read : (name : List ℕ) (there : Found) → Reads (file_there name there) name there
there_read name there = by_test there.readable (λ t. rw t (refl, refl)) (λ t. rw t refl)

-- ---- the lines go on

module _ {long : ℕ} (s : Standing) (f : Fit long s) (given : Option File) where
  abbrev on : Walked
  on = walked_on given (block s) (walked s)

  far : Goes (block s) given (walked s) (walk given (walked s) (lines_in (drop s.at (block s))))
  far =
      walk_goes (block s) (lines_in (drop s.at (block s))) given (walked s)
      (record { sized = f.sized; holds = refl; early = f.early }) f.reached f.waits refl

  there : Went given (block s) (walked s) on
  there = walk_exists given (block s) s.register s.number s.at s.output s.out far

  fit_on : Fit long (further s on)
  fit_on =
      record {
        sized = far.good.sized;
        early = subst Early far.good.holds far.good.early;
        reached = far.reached;
        waits = omega (arith, far.room, far.as_long);
        roomy = omega (arith, f.roomy, far.as_long);
        as_long = f.as_long;
      }

-- ---- until more input is wanted

-- where a run starts
abbrev pub start_of : {files : Files} {bs : List (List ℕ)} {e : Bool} {s : Standing} → Ran files bs e s → Standing
start_of {s = s} (starts start b cols loads input output h) = s
start_of (fed run i n front h b input p l w g) = start_of run
start_of (found run from to i file k w g) = start_of run
start_of (wrote run) = start_of run
start_of (went run w g) = start_of run
start_of (closed run i n front h m input d w g) = start_of run

-- what is left to do: twice the lines that are left, and one more where room is wanted
abbrev cost : Standing → ℕ
cost s = 2 * left (block s) s.at + room_fee s.wants

lower_still : {P : Type 0} {a b c : ℕ} → b ≤ c → P ⊎ (a < b) → P ⊎ (a < c)
lower_still h (inl p) = inl p
lower_still h (inr k) = inr (omega (arith, h, k))

module _ (files : Files) (first : Standing) (long : ℕ) where
  -- a run that wants more input or has less left to do than before
  record Moved (bs : List (List ℕ)) (e : Bool) (before : ℕ) : Type 1 where
    pub standing : Standing
    pub run : Ran files bs e standing
    pub since : start_of run ≡ first
    pub fit : Fit long standing
    pub lower : (standing.wants ≡ Input) ⊎ (cost standing < before)

  -- a run whose lines are answered, as far as they have come
  pub record Idle (bs : List (List ℕ)) (e : Bool) : Type 1 where
    pub standing : Standing
    pub run : Ran files bs e standing
    pub since : start_of run ≡ first
    pub fit : Fit long standing
    pub idle : standing.wants ≡ Input

  module _ {bs : List (List ℕ)} {e : Bool} where
    -- the answers are written, and what is wanted is given
    once : (s : Standing) (want : Wants) → s.wants ≡ want → (run : Ran files bs e s) → start_of run ≡ first → Fit long s → Moved bs e (cost s)
    once s Input i run o f = record { standing = s; run = run; since = o; fit = f; lower = inl i }
    once s (Want.File from to) i run o f =
        let name = cut (block s) from to in
        let there-is = files (suc s.number) name in
        let file = file_there name there-is in
        let g = fit_writes f in
        record {
          standing = further (writes s) (on (writes s) g (Some file));
          run = found (wrote run) from to i file (there_read name there-is) (on (writes s) g (Some file))
              (there (writes s) g (Some file));
          since = o;
          fit = fit_on (writes s) g (Some file);
          lower = lower_still (omega arith) ((far (writes s) g (Some file)).lower (le-leb 64 (length s.output) f.roomy));
        }
    once s Room i run o f =
        let g = fit_writes f in
        record {
          standing = further (writes s) (on (writes s) g None);
          run = went (wrote run) (on (writes s) g None) (there (writes s) g None);
          since = o;
          fit = fit_on (writes s) g None;
          lower = lower_still (omega (arith, ap room_fee i)) ((far (writes s) g None).lower (le-leb 64 (length s.output) f.roomy));
        }

    rests : {k : ℕ} (x : Moved bs e k) → x.standing.wants ≡ Input → Idle bs e
    rests x i = record { standing = x.standing; run = x.run; since = x.since; fit = x.fit; idle = i }

    -- and again, until more input is wanted
    goes_on : (k : ℕ) (s : Standing) (run : Ran files bs e s) → start_of run ≡ first → Fit long s → cost s ≤ k → Idle bs e
    goes_on zero s run o f h =
        let x = once s s.wants refl run o f in
        ⊎_elim (λ i. rests x i) (λ l. absurd (omega (arith, l, h))) x.lower
    goes_on (suc k) s run o f h =
        let x = once s s.wants refl run o f in
        ⊎_elim (λ i. rests x i) (λ l. goes_on k x.standing x.run x.since x.fit (omega (arith, l, h))) x.lower

    settles : (s : Standing) (run : Ran files bs e s) → start_of run ≡ first → Fit long s → Idle bs e
    settles s run o f = goes_on (cost s) s run o f (omega arith)

  -- ---- a block comes

  module _ {bs : List (List ℕ)} (x : Idle bs false) where
    abbrev s : Standing
    s = x.standing

    -- what is held of what is unread, and the input with it at its front
    abbrev kept : List ℕ
    kept = held_of s.input s.at s.end

    abbrev front : List ℕ
    front = sets s.input 0 kept

    few_kept : (length kept ≤ 513) × (length kept ≤ length s.input)
    few_kept =
        let a = length-take 513 (drop s.at (block s)) in
        let b = length-drop s.at (block s) in
        let c = length-take s.end s.input in
        (omega (arith, a), omega (arith, a, b, c))

    is_held : Held s.input s.at s.end (length kept) front
    is_held =
        holds ([], tt) (ref_mut s.input, (s.at, (s.end, tt))) (length kept) (ref_mut front, (s.at, (s.end, tt))) (λ t. (refl, refl, few_kept.0, few_kept.1))

    front_long : length front ≡ long
    front_long = length-sets s.input 0 kept ∙ x.fit.as_long

    pub feeds : (b : List ℕ) → length b + 513 ≤ long → Idle (bs ++ b ∷ []) false
    feeds b h =
        let n = length kept in
        let text = take n front ++ b in
        let many : length text ≡ n + length b = length-append (take n front) b ∙ ap (λ (k : ℕ). k + length b) (length-take-le n front (omega (arith, front_long, few_kept.1, x.fit.as_long))) in
        let input = text ++ drop (n + length b) front in
        let all : length input ≡ length front =
        length-append text (drop (n + length b) front) ∙ omega (arith, many, length-drop (n + length b) front, h, few_kept.0, front_long) in
        let r = reads s input (n + length b) in
        let f = fit_reads x.fit input (n + length b) (all ∙ front_long) in
        settles (further r (on r f None))
        (fed x.run x.idle n front is_held b input (take_at text (drop (n + length b) front) (n + length b) many) all (on r f None) (there r f None))
        x.since (fit_on r f None)

    -- ---- the input ends

    abbrev last : List ℕ
    last = ended front (length kept)

    abbrev end : ℕ
    end = ended_at front (length kept)

    last_long : length last ≡ length front
    unfolding ended
    last_long = by_test (is_last front (length kept)) (λ t. rw (t, length-set front (length kept) 10) refl) (λ t. rw t refl)

    end_inside : end ≤ length front
    unfolding ended_at
    end_inside =
        by_test (is_last front (length kept))
        (λ t. rw t (omega (arith, ltb-true (length kept) (length front) (and_right (ltb 0 (length kept)) (ltb (length kept) (length front)) t))))
        (λ t. rw t (omega arith))

    is_ended : Ended front (length kept) end last
    is_ended = ends ([], tt) (ref_mut front, (length kept, tt)) end (ref_mut last, (length kept, tt)) (λ t. (refl, refl, end_inside))

    pub closes : Idle bs true
    closes =
        let r = reads s last end in
        let f = fit_reads x.fit last end (last_long ∙ front_long) in
        settles (further r (on r f None))
        (closed x.run x.idle (length kept) front is_held end last is_ended (on r f None) (there r f None))
        x.since (fit_on r f None)

  feeds_all : (bs cs : List (List ℕ)) → All (λ b. length b + 513 ≤ long) cs → Idle bs false → Idle (bs ++ cs) false
  feeds_all bs [] all_none x = subst (λ ds. Idle ds false) (sym (append-nil bs)) x
  feeds_all bs (b ∷ cs) (all_more h a) x =
      subst (λ ds. Idle ds false) (append_assoc bs (b ∷ []) cs) (feeds_all (bs ++ b ∷ []) cs a (feeds x b h))

-- ---- from a fresh register

abbrev pub begins : Fresh → Columns → LoadColumns → List ℕ → List ℕ → Standing
begins start cols loads input output =
    record { register = lent start.head cols loads; number = 0; input = input; at = 0; end = 0; output = output; out = 0; wants = Input; written = [] }

-- A RUN OVER ALL BLOCKS from a standing, to where the input has ended and no line is left; and what it prints
pub record Runs (files : Files) (bs : List (List ℕ)) (first : Standing) : Type 1 where
  pub standing : Standing
  pub run : Ran files bs true standing
  pub since : start_of run ≡ first
  pub idle : standing.wants ≡ Input
  pub prints : length (joined bs) < most → out_of standing ≡ printed files fresh 1 (lines_of (joined bs))

-- EVERY SCRIPT RUNS, WHATEVER ITS BLOCKS: from every fresh register (`fresh_begun` of the register is one), with lent columns and rows that have the
-- places of their types, an input with room for 513 bytes and one more and for 513 bytes and each block, and an output with room for an answer
pub every_script_runs : (files : Files) (bs : List (List ℕ)) (start : Fresh) → Begun start → (cols : Columns) (loads : LoadColumns) → RecordsSized cols → LoadsSized loads →
    (input output : List ℕ) → 513 < length input → 64 ≤ length output → All (λ b. length b + 513 ≤ length input) bs → Runs files bs (begins start cols loads input output)
every_script_runs files bs start b cols loads c l input output h k a =
    let first = begins start cols loads input output in
    let long = length input in
    let idle : Idle files first long [] false = record {
      standing = first;
      run = starts start b cols loads input output h;
      since = refl;
      fit = record {
        sized = rw (begun_is b).0 (fresh_sized cols loads c l);
        early = subst Early (sym ((begun_is b).1 cols loads)) early_fresh;
        reached = omega arith;
        waits = omega arith;
        roomy = k;
        as_long = refl;
      };
      idle = refl;
    } in
    let x = closes files first long (feeds_all files first long [] bs a idle) in
    record {
      standing = x.standing;
      run = x.run;
      since = x.since;
      idle = x.idle;
      prints = λ few. (script_in_blocks files bs true x.standing x.run few).in_all refl x.idle;
    }
