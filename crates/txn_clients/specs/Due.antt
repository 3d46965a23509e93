-- Each call that waits, of a client that has not crashed, waits for something of its own line, or its client's request for timestamps is
-- out.
use Rattle.std.specs.Prelude.{◌≡◌, ◌⊎◌, ℕ, true, List, [], ◌∷◌, map, Option, Some, None, refl, slice_index_or}
use Rattle.std.specs.List.{All}
use Rattle.std.proofs.Common.{zero, suc, inl, inr, sym, ap, ◌∙◌, subst}
use Rattle.std.proofs.lemmas.List.Elements.{All-head, All-tail}
use Rattle.txn_history.specs.Meaning.{IsLawful}
use Rattle.txn_history.specs.Phase.{Awaited}
use Rattle.txn_history.specs.Phase.Awaited.{ReplyTo, EndOf, TimeOf}
use Rattle.txn_commit.specs.Ways.{Ways}
use Rattle.txn_core.proofs.Waiting.{busy_runs, standing_waits}
use Rattle.txn_client.specs.Calls.{called-lawful}
use Rattle.txn_side.specs.Sight.{Stand, client_at, lives, nobody, stand_at}
use Rattle.txn_side.specs.Sight.Stand.{Asking, Calling, HasBegun, Idle, IsClient, Past, Working}
use Rattle.txn_side.specs.Waiting.{HasGroup, IsDue, NoneWaits, waiting_at}
use Rattle.txn_side.specs.Waiting as side
use Rattle.txn_side.specs.Waiting.Awaited.{EndOf as SideEnd, ReplyTo as SideReply}
use Rattle.txn_tso.specs.Oracle.{group_or_none}
use Rattle.txn_tso.specs.declared.asker.Asker.{Asker}
use Rattle.txn_clients.specs.Clients.{nexts_of, row_at, rows_of, sight_of, stands_of}
use Rattle.txn_clients.specs.Groups.{group_by, group_of, lines_in}
use Rattle.txn_clients.specs.Rows.{RowReady, stand_of}
use Rattle.txn_clients.specs.Waiting.{HasAsk, HasAskOut, IsAskedIn, IsReady, IsThere, RowArises, RowRuns, Wants, asks_of, blank, book_at, book_of, posted_at, voice, voice_at, waits_of, wants}
use Rattle.txn_clients.specs.declared.client_state.ClientState.{ClientState}
use Rattle.txn_clients.specs.declared.clients.Clients.{Clients}
use Rattle.txn_clients.specs.declared.row.Row.{Row}
use Rattle.txn_clients.specs.declared.row.Row.TheVariants as row

-- What is out

groups_there : (cs : List ClientState) (c : ℕ) → slice_index_or (map group_of cs) c None ≡ group_by (slice_index_or (map book_of cs) c blank).ticket (lines_in (group_or_none (slice_index_or (map book_of cs) c blank).out))
groups_there [] c = refl
groups_there (x ∷ xs) zero = refl
groups_there (x ∷ xs) (suc c) = groups_there xs c

all_at : {X : Type 0} (P : X → Type 0) (xs : List X) (d : X) → All P xs → P d → (i : ℕ) → P (slice_index_or xs i d)
all_at P [] d all h i = h
all_at P (x ∷ xs) d all h zero = All-head P x xs all
all_at P (x ∷ xs) d all h (suc i) = all_at P xs d (All-tail P x xs all) h i

some_asked : (askers : List Asker) (n k : ℕ) → askers ≡ [] → HasAsk askers n k → ⊥
some_asked askers n k e h = let g = subst (λ xs. HasAsk xs n k) e h in g.among

out_asked : (out : Option (List Asker)) (n k : ℕ) → out ≡ None → HasAskOut out n k → ⊥
out_asked out n k e h = subst (λ o. HasAskOut o n k) e h

abbrev begun_for : Stand → ℕ
begun_for Idle = 0
begun_for (IsClient c) = 0
begun_for (Asking c b) = 0
begun_for (HasBegun c m) = m
begun_for (Calling c x b) = 0
begun_for (Past c) = 0
begun_for (Working c) = 0

module _ {P : Type 0} where
  stand_there : (rows : List (Row P)) (i : ℕ) → slice_index_or (map stand_of rows) i Idle ≡ stand_of (slice_index_or rows i row.Plain)
  stand_there [] i = refl
  stand_there (r ∷ rs) zero = refl
  stand_there (r ∷ rs) (suc i) = stand_there rs i

  module _ (w : Ways P) where
    -- what stands nowhere waits for nothing
    idle_silent : (r : Row P) (a : Awaited) → stand_of r ≡ Idle → wants w r a → ⊥
    idle_silent row.Plain a e x = x
    idle_silent (row.Client c) a e x = x
    idle_silent (row.Asking c b call) a e x = absurd (never e)
      where
        never : Asking c b ≡ Idle → ⊥
        never q = cc
    idle_silent (row.Begun c t m) a e x = absurd (never e)
      where
        never : HasBegun c m ≡ Idle → ⊥
        never q = cc
    idle_silent (row.Calling c y b) a e x = x
    idle_silent (row.Past c) a e x = x
    idle_silent (row.Working c job) a e x = x

    pub nobody_waits_so : (s : Clients P) → sight_of s ≡ nobody → NoneWaits (waits_of w s)
    nobody_waits_so s e n a (i, v, x) = idle_silent (row_at (rows_of s) i) _ (sym (stand_there (rows_of s) i) ∙ ap (λ t. slice_index_or t.stands i Idle) e) x

    module _ (p : IsLawful w.plan) where
      -- what waits for something waits for it, or for its client's request
      waits_so : (s : Clients P) (n c : ℕ) → IsReady w s → client_at (stand_at (stands_of (rows_of s)) n) ≡ Some c → lives (sight_of s).crashed (Some c) ≡ true → (a : Awaited) → Wants w (rows_of s) n a
          → ((x : side.Awaited) × waits_of w s n x) ⊎ HasGroup (sight_of s) c
      waits_so s n c ready own live (ReplyTo m) x = inl (SideReply m, x)
      waits_so s n c ready own live (EndOf m) x = inl (SideEnd m, x)
      waits_so s n c ready own live (TimeOf m) x = inr (out (asked (ready.sound.asked n c m own live x)))
        where
          asked : IsAskedIn (book_at s c) n m ⊎ HasAsk [] n m → IsThere (book_at s c).ticket
          asked (inl (inl h)) = elim (ready.quiet c) [ inl e ↦ absurd (some_asked (book_at s c).queue n m e h) | inr t ↦ t ]
          asked (inl (inr h)) = elim (ready.sound.paired c) [ inl e ↦ absurd (out_asked (book_at s c).out n m e h) | inr t ↦ t ]
          asked (inr h) = absurd h.among

          out : IsThere (book_at s c).ticket → HasGroup (sight_of s) c
          out (t, e) = record {
            group = record { ticket = t; askers = lines_in (group_or_none (book_at s c).out) };
            out = groups_there s.clients.items c ∙ ap (λ o. group_by o (lines_in (group_or_none (book_at s c).out))) e;
            own = let o = ready.sound.owned c t e in o.own;
          }

      pub due_so : (s : Clients P) → IsReady w s → IsDue (waits_of w s) (sight_of s)
      due_so s ready zero c e live = absurd (never e)
        where
          never : None ≡ Some c → ⊥
          never q = cc
      due_so s ready (suc i) c e live = by (row_at rows i) refl (sym (ap waiting_at (stand_there rows i)) ∙ e)
        where
          rows : List (Row P)
          rows = rows_of s

          stands : List Stand
          stands = stands_of rows

          at : (r : Row P) → row_at rows i ≡ r → stand_at stands (suc i) ≡ stand_of r
          at r f = stand_there rows i ∙ ap stand_of f

          -- a transaction that waits for the line waits for something
          called : (d j : ℕ) (r : Row P) → row_at rows j ≡ r → stand_of r ≡ HasBegun d (suc i) → (a : Awaited) × Wants w rows (suc i) a
          called d j row.Plain f g = absurd (cc)
          called d j (row.Client x) f g = absurd (cc)
          called d j (row.Asking x b call) f g = absurd (cc)
          called d j (row.Begun x t m) f g =
              let arisen = subst (λ r. RowArises w None (suc j) (posted_at (nexts_of s) (asks_of s) (voice_at rows j)) (nexts_of s) r) f (ready.sound.arisen j) in
              let opens : RowRuns (row.Begun x t m) = subst RowRuns f (ready.running j) in
              let may = subst (RowReady w) f (all_at (RowReady w) rows row.Plain ready.rows.each tt j) in
              let some = standing_waits w p t _ arisen.arisen.history arisen.arisen.fits (busy_runs w t may.0 (opens (λ z. zero_not (sym (ap begun_for g) ∙ z)))) in
              (some.0, (j, ap (λ r. voice j (stand_of r)) f ∙ ap begun_for g, subst (λ r. wants w r some.0) (sym f) some.1))
            where
              zero_not : suc i ≡ 0 → ⊥
              zero_not z = cc
          called d j (row.Calling x y b) f g = absurd (cc)
          called d j (row.Past x) f g = absurd (cc)
          called d j (row.Working x job) f g = absurd (cc)

          calls : (d x : ℕ) → stand_at stands x ≡ HasBegun d (suc i) → (a : Awaited) × Wants w rows (suc i) a
          calls d zero f = absurd (cc)
          calls d (suc j) f = called d j (row_at rows j) refl (sym (stand_there rows j) ∙ f)

          by : (r : Row P) → row_at rows i ≡ r → waiting_at (stand_of r) ≡ Some c → ((x : side.Awaited) × waits_of w s (suc i) x) ⊎ HasGroup (sight_of s) c
          by row.Plain f g = absurd (cc)
          by (row.Client d) f g = absurd (cc)
          by (row.Asking d b call) f g =
              let arisen = subst (λ r. RowArises w None (suc i) (posted_at (nexts_of s) (asks_of s) (voice_at rows i)) (nexts_of s) r) f (ready.sound.arisen i) in
              let runs = subst RowRuns f (ready.running i) in
              let some = called-lawful.waits call _ arisen.arisen.history arisen.arisen.fits runs in
              waits_so s (suc i) c ready (ap client_at (at (row.Asking d b call) f) ∙ g) live some.0 (i, ap (λ r. voice i (stand_of r)) f, subst (λ r. wants w r some.0) (sym f) some.1)
          by (row.Begun d t m) f g = absurd (cc)
          by (row.Calling d x b) f g =
              let some = calls d x (ready.sound.called (suc i) d x b (at (row.Calling d x b) f)) in
              waits_so s (suc i) c ready (ap client_at (at (row.Calling d x b) f) ∙ g) live some.0 some.1
          by (row.Past d) f g = absurd (cc)
          by (row.Working d job) f g = absurd (cc)

    pub due_when_ready : (s : Clients P) → IsReady w s → IsDue (waits_of w s) (sight_of s)
    due_when_ready s ready = due_so ready.lawful s ready
