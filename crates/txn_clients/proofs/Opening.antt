-- What holds of clients as lines and clients come, calls begin, and clients crash.
use Rattle.std.proofs.Common.{◌≡◌, ◌≢◌, ◌⊎◌, inl, inr, ℕ, zero, suc, ◌-◌, ◌<◌, ◌≤◌, Bool, true, false, List, [], ◌∷◌, ◌++◌, length, map, get_or, set, Option, Some, None, refl, sym, ap, ◌∙◌, subst, arith, length-set}
use Rattle.std.proofs.lemmas.List.{map-append}
use Rattle.txn_history.specs.Meaning.{IsLawful, IsUnbegun}
use Rattle.txn_history.specs.Phase.{Awaited}
use Rattle.txn_history.specs.Phase.Awaited.{TimeOf}
use Rattle.txn_history.specs.Posted.{Posted}
use Rattle.txn_commit.specs.Ways.{Ways}
use Rattle.txn_client.specs.Calls.{called, stage_waits}
use Rattle.txn_client.specs.declared.client_call.ClientCall.{ClientCall}
use Rattle.txn_client.specs.declared.client_call.Stage.TheVariants as stages
use Rattle.txn_side.specs.Sight.{Stand, client_at, lives, next_at, stand_at}
use Rattle.txn_side.specs.Sight.Stand.{Asking, Calling, HasBegun, Idle}
use Rattle.txn_tso.specs.declared.asker.Asker.{Asker}
use Rattle.txn_clients.specs.Clients.{AreReady, crashed_of, nexts_of, row_at, rows_of, stands_of}
use Rattle.txn_clients.specs.Matching.{AreMatched, IsLine}
use Rattle.txn_clients.specs.Rows.{Pd, Rests, stand_of, with_waits}
use Rattle.txn_clients.specs.Waiting.{AreCalled, IsRisen, IsSound, NoneHears, RowArises, Wants, asks_of, book_at, posted_at, voice, voice_at, wants, WantedIn}
use Rattle.txn_clients.specs.declared.clients.Clients.{Clients}
use Rattle.txn_clients.specs.declared.place.Place.{Place}
use Rattle.txn_clients.specs.declared.row.Row.{Row}
use Rattle.txn_clients.specs.declared.row.Row.TheVariants as row
use Rattle.txn_clients.proofs.Kept.{kept_nothing}
use Rattle.txn_clients.proofs.Listening.{within}
use Rattle.txn_side.specs.Trace.{Trace}
use Rattle.txn_clients.specs.Failing.{AreToldIn, CalledIn, CountedIn}
use Rattle.txn_clients.proofs.Showing.{shown_nothing}
use Rattle.txn_clients.proofs.Settling.{begun_asks, begun_calls, told_set, books_same, called_set, clients_set, crashed_same, one_set, rests_arises, rests_silent, rests_when_free, row_within, two_arisen, two_fewer}
use Rattle.txn_clients.proofs.Sounding.{le_of, sound_from, wants_fewer}
use Rattle.txn_clients.proofs.Stands.{line_of, or_ended, same_line, stand_opened, stand_other, stand_same, waited}
use Rattle.txn_clients.proofs.Tables.{called_stands, stand_of_line, stand_read, stands_set}
use Rattle.txn_clients.proofs.Going.{row_later}
use Rattle.txn_clients.proofs.Voices.{unheard_voice}

-- Numbers of one line more

pub next_opened : (nexts : List ℕ) (n : ℕ) → next_at nexts n ≤ next_at (nexts ++ 1 ∷ []) n
next_opened nexts zero = omega arith
next_opened nexts (suc i) = by nexts i
  where
    by : (ns : List ℕ) (j : ℕ) → get_or ns j 0 ≤ get_or (ns ++ 1 ∷ []) j 0
    by [] zero = omega arith
    by [] (suc j) = omega arith
    by (m ∷ ns) zero = omega arith
    by (m ∷ ns) (suc j) = by ns j

-- where a client has crashed, fewer live
pub lives_fewer : (crashed : List Bool) (client c : ℕ) → lives (set crashed client true) (Some c) ≡ true → lives crashed (Some c) ≡ true
lives_fewer [] client c e = e
lives_fewer (b ∷ bs) zero zero e = absurd (cc)
lives_fewer (b ∷ bs) zero (suc c) e = e
lives_fewer (b ∷ bs) (suc client) zero e = e
lives_fewer (b ∷ bs) (suc client) (suc c) e = lives_fewer bs client c e

-- and where one client more is there, no other lives than before
pub lives_more : (crashed : List Bool) (c : ℕ) → c < length crashed → lives (crashed ++ false ∷ []) (Some c) ≡ true → lives crashed (Some c) ≡ true
lives_more [] c h e = absurd (omega arith)
lives_more (b ∷ bs) zero h e = e
lives_more (b ∷ bs) (suc c) h e = lives_more bs c (omega arith) e

module _ {P : Type 0} where
  -- nobody waits in the name of a line where nothing stands
  idle_unwanted : (w : Ways P) (rows : List (Row P)) (line : ℕ) (a : Awaited) → AreMatched (stands_of rows) → 1 ≤ line → stand_at (stands_of rows) line ≡ Idle → Wants w rows line a → ⊥
  idle_unwanted w rows line a matched one idle (i, v, x) = unheard_voice (stands_of rows) line i matched (λ z. omega (arith, one, z)) (subst (NoneHears (stands_of rows) line) (sym idle) tt) (ap (voice i) (stand_read rows i) ∙ v)

  module _ (w : Ways P) (p : IsLawful w.plan) where
    -- Where nothing stood, something stands that waits for nothing.

    pub idle_fewer : (s t : Clients P) (line : ℕ) (r : Row P) → IsLine (stands_of (rows_of s)) line → ((a : Awaited) → wants w r a → ⊥) → rows_of t ≡ set (rows_of s) (line - 1) r → (n : ℕ) (a : Awaited) → Wants w (rows_of t) n a → Wants w (rows_of s) n a
    idle_fewer s t line r is silent rows n a x = wants_fewer w (rows_of s) (line - 1) r (row_within (rows_of s) line is) silent n a (subst (λ rs. Wants w rs n a) rows x)

    pub idle_sound : (trace : Option Trace) (s t : Clients P) (line c : ℕ) (r : Row P) (rest : List Asker) → IsLine (stands_of (rows_of s)) line → stand_at (stands_of (rows_of s)) line ≡ Idle → AreMatched (stands_of (rows_of s))
        → ((a : Awaited) → wants w r a → ⊥) → ((o : Posted) (nexts : List ℕ) → RowArises w trace line o nexts r) → client_at (stand_of r) ≡ Some c → c < length (crashed_of t) → ((d x : ℕ) (a : Bool) → stand_of r ≡ Calling d x a → ⊥) → ((d : ℕ) (a : Bool) → stand_of r ≡ Asking d a → CalledIn trace line line)
        → rows_of t ≡ set (rows_of s) (line - 1) r → nexts_of t ≡ nexts_of s → asks_of t ≡ asks_of s
        → length (crashed_of s) ≤ length (crashed_of t) → ((d : ℕ) → d < length (crashed_of s) → lives (crashed_of t) (Some d) ≡ true → lives (crashed_of s) (Some d) ≡ true) → ((d : ℕ) → book_at t d ≡ book_at s d)
        → IsSound w trace rest s → IsSound w trace rest t
    idle_sound trace s t line c r rest is idle matched silent here own there free told rows nexts asks more live books sound =
        sound_from w trace s t rest (subst (AreToldIn trace) (sym stands) (told_set trace ss line (stand_of r) is told (λ d x a e. absurd (free d x a e)) sound.told)) (one_set w p trace s t line r is rows nexts asks here sound.arisen)
        (subst AreCalled (sym stands) (called_set ss line (stand_of r) is free (λ d m e. never d m (sym idle ∙ e)) sound.called)) known wanted kept books (λ n. le_of (next_at (nexts_of s) n) (next_at (nexts_of t) n) (ap (λ ns. next_at ns n) (sym nexts))) (idle_fewer s t line r is silent rows) sound
      where
        ss : List Stand
        ss = stands_of (rows_of s)

        never : (d m : ℕ) → Idle ≡ HasBegun d m → ⊥
        never d m e = cc

        stands : stands_of (rows_of t) ≡ set ss (line - 1) (stand_of r)
        stands = ap stands_of rows ∙ stands_set (rows_of s) (line - 1) r

        apart_of : (n d : ℕ) → client_at (stand_at ss n) ≡ Some d → n ≢ line
        apart_of n d e same = none (sym (ap client_at (ap (stand_at ss) same ∙ idle)) ∙ e)
          where
            none : None ≡ Some d → ⊥
            none g = cc

        kept : (n d : ℕ) → client_at (stand_at ss n) ≡ Some d → client_at (stand_at (stands_of (rows_of t)) n) ≡ Some d
        kept n d e = ap (λ zs. client_at (stand_at zs n)) stands ∙ ap client_at (stand_other ss line n (stand_of r) is.first (apart_of n d e)) ∙ e

        before : (n d : ℕ) → n ≢ line → client_at (stand_at (stands_of (rows_of t)) n) ≡ Some d → client_at (stand_at ss n) ≡ Some d
        before n d apart e = sym (ap (λ zs. client_at (stand_at zs n)) stands ∙ ap client_at (stand_other ss line n (stand_of r) is.first apart)) ∙ e

        known : (n d : ℕ) → client_at (stand_at (stands_of (rows_of t)) n) ≡ Some d → d < length (crashed_of t)
        known n d e = by (same_line line n)
          where
            one : Some c ≡ Some d → c ≡ d
            one g = cc

            by : (n ≡ line) ⊎ (n ≢ line) → d < length (crashed_of t)
            by (inl same) = subst (λ j. j < length (crashed_of t)) (one (sym own ∙ sym (ap client_at (stand_same ss line (stand_of r) is)) ∙ ap (λ j. client_at (stand_at (set ss (line - 1) (stand_of r)) j)) (sym same) ∙ ap (λ zs. client_at (stand_at zs n)) (sym stands) ∙ e)) there
            by (inr apart) = let l = sound.known n d (before n d apart e) in omega (arith, l, more)

        wanted : (n d i : ℕ) → client_at (stand_at (stands_of (rows_of t)) n) ≡ Some d → lives (crashed_of t) (Some d) ≡ true → Wants w (rows_of t) n (TimeOf i) → (client_at (stand_at ss n) ≡ Some d) × (lives (crashed_of s) (Some d) ≡ true) × Wants w (rows_of s) n (TimeOf i)
        wanted n d i e l x = by (same_line line n)
          where
            was : Wants w (rows_of s) n (TimeOf i)
            was = idle_fewer s t line r is silent rows n (TimeOf i) x

            by : (n ≡ line) ⊎ (n ≢ line) → (client_at (stand_at ss n) ≡ Some d) × (lives (crashed_of s) (Some d) ≡ true) × Wants w (rows_of s) n (TimeOf i)
            by (inl same) = absurd (idle_unwanted w (rows_of s) line (TimeOf i) matched is.first idle (subst (λ j. Wants w (rows_of s) j (TimeOf i)) same was))
            by (inr apart) = let o = before n d apart e in (o, live d (sound.known n d o) l, was)

    -- A call for a timestamp begins.

    pub fresh_silent : (c : ℕ) (b : Bool) (call : ClientCall Pd P) → call.stage ≡ stages.Fresh → (a : Awaited) → wants w (row.Asking c b call) a → ⊥
    fresh_silent c b call e a x = subst (λ g. stage_waits g a) e x

    pub fresh_arises : (c : ℕ) (b : Bool) (call : ClientCall Pd P) → IsUnbegun called call → (trace : Option Trace) (at : ℕ) → WantedIn trace at call → ((n : ℕ) → CountedIn trace n 0) → (o : Posted) (nexts : List ℕ) → RowArises w trace at o nexts (row.Asking c b call)
    fresh_arises c b call u trace at wants none o nexts = record {
      wanted = wants;
      arisen = record { history = []; fits = u.fits o []; kept = kept_nothing nexts; shown = shown_nothing trace at; own = λ e i. absurd i; counted = none o.line };
    }

    pub asking_sound : (trace : Option Trace) (s t : Clients P) (line c : ℕ) (b : Bool) (call : ClientCall Pd P) (rest : List Asker) → IsLine (stands_of (rows_of s)) line → stand_at (stands_of (rows_of s)) line ≡ Idle → AreMatched (stands_of (rows_of s))
        → get_or (crashed_of s) c true ≡ false → call.stage ≡ stages.Fresh → IsUnbegun called call
        → rows_of t ≡ set (rows_of s) (line - 1) (row.Asking c b call) → nexts_of t ≡ nexts_of s → asks_of t ≡ asks_of s → t.clients ≡ s.clients → CalledIn trace line line → WantedIn trace line call → IsSound w trace rest s → IsSound w trace rest t
    asking_sound trace s t line c b call rest is idle matched there fresh unbegun rows nexts asks clients is_called wants sound =
        let same = crashed_same s t clients in
        idle_sound trace s t line c (row.Asking c b call) rest is idle matched (fresh_silent c b call fresh) (fresh_arises c b call unbegun trace line wants sound.owing) refl (subst (λ cs. c < length cs) (sym same) (within (crashed_of s) c there)) (λ d x a e. cc) (λ d a e. is_called)
        rows nexts asks (le_of (length (crashed_of s)) (length (crashed_of t)) (sym (ap length same))) (λ d h l. ap (λ cs. lives cs (Some d)) (sym same) ∙ l) (books_same s t clients) sound

    -- A call of a transaction begins.

    pub calling_fewer : (s t : Clients P) (line x c : ℕ) (b : Bool) → IsLine (stands_of (rows_of s)) line → stand_at (stands_of (rows_of s)) x ≡ HasBegun c 0 → AreReady w (rows_of s)
        → rows_of t ≡ set (set (rows_of s) (x - 1) (with_waits line (row_at (rows_of s) (x - 1)))) (line - 1) (row.Calling c x b) → (n : ℕ) (a : Awaited) → Wants w (rows_of t) n a → Wants w (rows_of s) n a
    calling_fewer s t line x c b is free ready rows =
        two_fewer w p (rows_of s) (rows_of t) line x (row.Calling c x b) (with_waits line (row_at (rows_of s) (x - 1))) is at rows (λ a z. z)
        (rests_silent w line c 0 (row_at (rows_of s) (x - 1)) begun (rests_when_free w c (row_at (rows_of s) (x - 1)) begun (ready.each (x - 1) row.Plain (row_within (rows_of s) x at))))
      where
        at : IsLine (stands_of (rows_of s)) x
        at = line_of (stands_of (rows_of s)) x (λ i. idle (sym free ∙ i))
          where
            idle : HasBegun c 0 ≡ Idle → ⊥
            idle g = cc

        begun : stand_of (row_at (rows_of s) (x - 1)) ≡ HasBegun c 0
        begun = sym (stand_of_line (rows_of s) x at.first) ∙ free

    pub calling_sound : (trace : Option Trace) (s t : Clients P) (line x c : ℕ) (b : Bool) (rest : List Asker) → IsLine (stands_of (rows_of s)) line → stand_at (stands_of (rows_of s)) line ≡ Idle → stand_at (stands_of (rows_of s)) x ≡ HasBegun c 0 → AreReady w (rows_of s)
        → rows_of t ≡ set (set (rows_of s) (x - 1) (with_waits line (row_at (rows_of s) (x - 1)))) (line - 1) (row.Calling c x b) → nexts_of t ≡ nexts_of s → asks_of t ≡ asks_of s → t.clients ≡ s.clients → CalledIn trace line x → IsSound w trace rest s → IsSound w trace rest t
    calling_sound trace s t line x c b rest is idle free ready rows nexts asks clients is_called sound =
        sound_from w trace s t rest told
        (two_arisen w p trace s t line x (row.Calling c x b) (with_waits line mine) is at rows nexts asks (λ o. tt) (λ o. rests_arises w p trace (suc (x - 1)) line c 0 mine begun rests _ o (nexts_of s) (sound.owing o.line) (sound.arisen (x - 1))) sound.arisen)
        (subst AreCalled (sym stands) all_called) known wanted kept (books_same s t clients) (λ n. le_of (next_at (nexts_of s) n) (next_at (nexts_of t) n) (ap (λ ns. next_at ns n) (sym nexts))) (calling_fewer s t line x c b is free ready rows) sound
      where
        ss : List Stand
        ss = stands_of (rows_of s)

        mine : Row P
        mine = row_at (rows_of s) (x - 1)

        at : IsLine ss x
        at = line_of ss x (λ i. none (sym free ∙ i))
          where
            none : HasBegun c 0 ≡ Idle → ⊥
            none g = cc

        begun : stand_of mine ≡ HasBegun c 0
        begun = sym (stand_of_line (rows_of s) x at.first) ∙ free

        rests : Rests mine
        rests = rests_when_free w c mine begun (ready.each (x - 1) row.Plain (row_within (rows_of s) x at))

        mid : List Stand
        mid = set ss (x - 1) (HasBegun c line)

        is_mid : IsLine mid line
        is_mid = record { first = is.first; last = subst (λ n. line ≤ n) (sym (length-set ss (x - 1) (HasBegun c line))) is.last }

        both : List Stand
        both = set mid (line - 1) (Calling c x b)

        stands : stands_of (rows_of t) ≡ both
        stands = ap stands_of rows ∙ called_stands (rows_of s) line x c 0 (row.Calling c x b) at free

        crashed : crashed_of t ≡ crashed_of s
        crashed = crashed_same s t clients

        far : x ≢ line
        far e = two (sym idle ∙ ap (stand_at ss) (sym e) ∙ free)
          where
            two : Idle ≡ HasBegun c 0 → ⊥
            two g = cc

        told : AreToldIn trace (stands_of (rows_of t))
        told = subst (AreToldIn trace) (sym stands) (told_set trace mid line (Calling c x b) is_mid (λ e a f. absurd (cc)) (λ e y a f. subst (CalledIn trace line) (call_of e y a f) is_called)
            (told_set trace ss x (HasBegun c line) at (λ e a f. absurd (begun_asks c line e a f)) (λ e y a f. absurd (begun_calls c line e y a f)) sound.told))
          where
            call_of : (e y : ℕ) (a : Bool) → Calling c x b ≡ Calling e y a → x ≡ y
            call_of e y a f = cc

        begun_both : stand_at both x ≡ HasBegun c line
        begun_both = stand_other mid line x (Calling c x b) is.first far ∙ stand_same ss x (HasBegun c line) at

        -- the client of each other line is the same
        of : (n : ℕ) → n ≢ line → client_at (stand_at (stands_of (rows_of t)) n) ≡ client_at (stand_at ss n)
        of n apart = ap (λ zs. client_at (stand_at zs n)) stands ∙ ap client_at (stand_other mid line n (Calling c x b) is.first apart) ∙ clients_set ss x (HasBegun c line) at (sym (ap client_at free)) n

        kept : (n d : ℕ) → client_at (stand_at ss n) ≡ Some d → client_at (stand_at (stands_of (rows_of t)) n) ≡ Some d
        kept n d e = of n (λ same. none (sym (ap client_at (ap (stand_at ss) same ∙ idle)) ∙ e)) ∙ e
          where
            none : None ≡ Some d → ⊥
            none g = cc

        known : (n d : ℕ) → client_at (stand_at (stands_of (rows_of t)) n) ≡ Some d → d < length (crashed_of t)
        known n d e = by (same_line line n)
          where
            one : Some c ≡ Some d → c ≡ d
            one g = cc

            by : (n ≡ line) ⊎ (n ≢ line) → d < length (crashed_of t)
            by (inl same) =
                let c_is = one (sym (ap client_at (stand_same mid line (Calling c x b) is_mid)) ∙ ap (λ j. client_at (stand_at both j)) (sym same) ∙ ap (λ zs. client_at (stand_at zs n)) (sym stands) ∙ e) in
                subst (λ cs. d < length cs) (sym crashed) (subst (λ j. j < length (crashed_of s)) c_is (sound.known x c (ap client_at free)))
            by (inr apart) = subst (λ cs. d < length cs) (sym crashed) (sound.known n d (sym (of n apart) ∙ e))

        wanted : (n d i : ℕ) → client_at (stand_at (stands_of (rows_of t)) n) ≡ Some d → lives (crashed_of t) (Some d) ≡ true → Wants w (rows_of t) n (TimeOf i) → (client_at (stand_at ss n) ≡ Some d) × (lives (crashed_of s) (Some d) ≡ true) × Wants w (rows_of s) n (TimeOf i)
        wanted n d i e l z = by (same_line line n)
          where
            was : Wants w (rows_of s) n (TimeOf i)
            was = calling_fewer s t line x c b is free ready rows n (TimeOf i) z

            by : (n ≡ line) ⊎ (n ≢ line) → (client_at (stand_at ss n) ≡ Some d) × (lives (crashed_of s) (Some d) ≡ true) × Wants w (rows_of s) n (TimeOf i)
            by (inl same) = absurd (idle_unwanted w (rows_of s) line (TimeOf i) ready.matched is.first idle (subst (λ j. Wants w (rows_of s) j (TimeOf i)) same was))
            by (inr apart) = (sym (of n apart) ∙ e, ap (λ cs. lives cs (Some d)) (sym crashed) ∙ l, was)

        all_called : AreCalled both
        all_called n e y g f = by (same_line line n) (same_line x n)
          where
            by : (n ≡ line) ⊎ (n ≢ line) → (n ≡ x) ⊎ (n ≢ x) → stand_at both y ≡ HasBegun e n
            by (inl same) other = ap (stand_at both) (sym (x_of is_call)) ∙ begun_both ∙ ap (λ j. HasBegun j line) (c_of is_call) ∙ ap (HasBegun e) (sym same)
              where
                is_call : Calling c x b ≡ Calling e y g
                is_call = sym (stand_same mid line (Calling c x b) is_mid) ∙ ap (stand_at both) (sym same) ∙ f

                x_of : Calling c x b ≡ Calling e y g → x ≡ y
                x_of h = cc

                c_of : Calling c x b ≡ Calling e y g → c ≡ e
                c_of h = cc
            by (inr apart) (inl same) = absurd (two (sym begun_both ∙ ap (stand_at both) (sym same) ∙ f))
              where
                two : HasBegun c line ≡ Calling e y g → ⊥
                two h = cc
            by (inr apart) (inr off) = stand_other mid line y (Calling c x b) is.first not_line ∙ stand_other ss x y (HasBegun c line) at.first not_x ∙ there
              where
                call : stand_at ss n ≡ Calling e y g
                call = sym (stand_other ss x n (HasBegun c line) at.first off) ∙ sym (stand_other mid line n (Calling c x b) is.first apart) ∙ f

                there : stand_at ss y ≡ HasBegun e n
                there = sound.called n e y g call

                not_line : y ≢ line
                not_line z = two (sym idle ∙ ap (stand_at ss) (sym z) ∙ there)
                  where
                    two : Idle ≡ HasBegun e n → ⊥
                    two h = cc

                not_x : y ≢ x
                not_x z = two (ap (stand_at ss) (waited c e 0 n (sym free ∙ ap (stand_at ss) (sym z) ∙ there)) ∙ call)
                  where
                    two : stand_at ss 0 ≡ Calling e y g → ⊥
                    two h = cc

    -- One line more.

    opened_row : (s t : Clients P) → rows_of t ≡ rows_of s ++ row.Plain ∷ [] → (i : ℕ) → row_at (rows_of t) i ≡ row_at (rows_of s) i
    opened_row s t rows i = ap (λ rs. row_at rs i) rows ∙ or_ended (rows_of s) row.Plain i

    pub opened_fewer : (s t : Clients P) → rows_of t ≡ rows_of s ++ row.Plain ∷ [] → (n : ℕ) (a : Awaited) → Wants w (rows_of t) n a → Wants w (rows_of s) n a
    opened_fewer s t rows n a (i, v, x) = (i, ap (λ (y : Row P). voice i (stand_of y)) (sym (opened_row s t rows i)) ∙ v, subst (λ (y : Row P). wants w y a) (opened_row s t rows i) x)

    pub opened_sound : (trace : Option Trace) (s t : Clients P) (rest : List Asker) → rows_of t ≡ rows_of s ++ row.Plain ∷ [] → nexts_of t ≡ nexts_of s ++ 1 ∷ [] → asks_of t ≡ asks_of s ++ 1 ∷ [] → t.clients ≡ s.clients → IsSound w trace rest s → IsSound w trace rest t
    opened_sound trace s t rest rows nexts asks clients sound =
        sound_from w trace s t rest (record { asks = λ n c b e. sound.told.asks n c b (sym (stand n) ∙ e); calls = λ n c x b e. sound.told.calls n c x b (sym (stand n) ∙ e) }) arisen called
        (λ n d e. subst (λ cs. d < length cs) (sym crashed) (sound.known n d (ap client_at (sym (stand n)) ∙ e)))
        (λ n d i e l x. (ap client_at (sym (stand n)) ∙ e, ap (λ cs. lives cs (Some d)) (sym crashed) ∙ l, opened_fewer s t rows n (TimeOf i) x))
        (λ n d e. ap client_at (stand n) ∙ e) (books_same s t clients) risen (opened_fewer s t rows) sound
      where
        crashed : crashed_of t ≡ crashed_of s
        crashed = crashed_same s t clients

        stand : (n : ℕ) → stand_at (stands_of (rows_of t)) n ≡ stand_at (stands_of (rows_of s)) n
        stand n = ap (λ rs. stand_at (stands_of rs) n) rows ∙ ap (λ ss. stand_at ss n) (map-append stand_of (rows_of s) (row.Plain ∷ [])) ∙ stand_opened (stands_of (rows_of s)) n

        called : AreCalled (stands_of (rows_of t))
        called n c x b e = stand x ∙ sound.called n c x b (sym (stand n) ∙ e)

        risen : IsRisen (nexts_of s) (nexts_of t)
        risen n = subst (λ ns. next_at (nexts_of s) n ≤ next_at ns n) (sym nexts) (next_opened (nexts_of s) n)

        asked : IsRisen (asks_of s) (asks_of t)
        asked n = subst (λ ns. next_at (asks_of s) n ≤ next_at ns n) (sym asks) (next_opened (asks_of s) n)

        arisen : (i : ℕ) → RowArises w trace (suc i) (posted_at (nexts_of t) (asks_of t) (voice_at (rows_of t) i)) (nexts_of t) (row_at (rows_of t) i)
        arisen i = subst (λ (y : Row P). RowArises w trace (suc i) (posted_at (nexts_of t) (asks_of t) (voice i (stand_of y))) (nexts_of t) y) (sym (opened_row s t rows i))
            (row_later w p trace (suc i) (row_at (rows_of s) i) _ _ (nexts_of s) (nexts_of t) (record { line = refl; beat = refl; next = risen (voice_at (rows_of s) i); next_ask = asked (voice_at (rows_of s) i) }) risen (sound.arisen i))

    -- A client is gone.

    pub crashed_sound : (trace : Option Trace) (s t : Clients P) (client : ℕ) (rest : List Asker) → t.places ≡ s.places → crashed_of t ≡ set (crashed_of s) client true → ((c : ℕ) → book_at t c ≡ book_at s c) → IsSound w trace rest s → IsSound w trace rest t
    crashed_sound trace s t client rest places crashed books sound = sound_from w trace s t rest (subst (AreToldIn trace) (sym stands) sound.told)
        (λ i. subst (λ v. RowArises w trace (suc i) (posted_at (map (λ (x : Place P). x.next) v.items) (map (λ (x : Place P). x.next_ask) v.items) (voice_at (map (λ (x : Place P). x.row) v.items) i)) (map (λ (x : Place P). x.next) v.items) (row_at (map (λ (x : Place P). x.row) v.items) i)) (sym places) (sound.arisen i))
        (subst AreCalled (sym stands) sound.called)
        (λ n d e. let l = sound.known n d (ap (λ ss. client_at (stand_at ss n)) (sym stands) ∙ e) in let long = ap length crashed ∙ length-set (crashed_of s) client true in omega (arith, l, long))
        (λ n d i e l x. (ap (λ ss. client_at (stand_at ss n)) (sym stands) ∙ e, lives_fewer (crashed_of s) client d (ap (λ cs. lives cs (Some d)) (sym crashed) ∙ l), subst (λ rs. Wants w rs n (TimeOf i)) rows x))
        (λ n d e. ap (λ ss. client_at (stand_at ss n)) stands ∙ e) books (λ n. le_of (next_at (nexts_of s) n) (next_at (nexts_of t) n) (ap (λ v. next_at (map (λ (x : Place P). x.next) v.items) n) (sym places))) (λ n a x. subst (λ rs. Wants w rs n a) rows x) sound
      where
        rows : rows_of t ≡ rows_of s
        rows = ap (λ v. map (λ (x : Place P). x.row) v.items) places

        stands : stands_of (rows_of t) ≡ stands_of (rows_of s)
        stands = ap stands_of rows
