-- Each event is done just where it can be.
use Rattle.std.proofs.Common.{◌≡◌, ℕ, Bool, true, false, not, ◌&&◌, if◌then◌else◌, List, Option, Some, None, slice_get, is_some, refl, sym, ap, ◌∙◌, subst}
use Rattle.txn_kv.specs.declared.ticket.Ticket.{Ticket}
use Rattle.txn_history.specs.Busy.{busy_reply}
use Rattle.txn_history.specs.Event.{Event, is_awaited, is_lost, is_refused, is_served, taken_reply}
use Rattle.txn_law.specs.Run.{store_after}
use Rattle.txn_lines.specs.Lines.{named_in, why_named}
use Rattle.txn_lines.specs.declared.deed.Deed.{Deed}
use Rattle.txn_lines.specs.declared.deed.Deed.TheVariants as deeds
use Rattle.txn_lines.specs.declared.happening.Happening.TheVariants as happenings
use Rattle.txn_lines.specs.declared.line.Line.{Line}
use Rattle.txn_model.specs.Regions.{can_lead, can_split}
use Rattle.txn_post.specs.Mail.{as_sent, as_slept, can_be_served, found_awaited, found_lasting, found_unserved, is_awaited as awaits, is_lasting, letter_at, only, place_of}
use Rattle.txn_post.specs.declared.post.Place.{Place}
use Rattle.txn_post.specs.declared.post.Place.TheVariants.{Sent, Slept}
use Rattle.txn_report.specs.declared.outcome.Outcome.{Outcome}
use Rattle.txn_side.specs.Sight.{Stand, client_at, is_live, lives, stand_at}
use Rattle.txn_machine.specs.Causes.{EventMeets, can_refuse, hears, is_refusable, is_servable, is_woken, role_for}
use Rattle.txn_machine.specs.Causes.Role.{NoCall}
use Rattle.txn_machine.specs.Lists.{Lists, opened, request_at, request_in}
use Rattle.txn_machine.specs.Rows.{AreOwned, AreRows, Fate, IsFate, IsUnsent}
use Rattle.txn_machine.specs.Script.{outcome_of}
use Rattle.txn_machine.specs.Steps.{does_it, done_if, found_asleep, found_out, test_at}
use Rattle.txn_post.proofs.Naming.{opened_leads}
use Rattle.txn_machine.proofs.Calms.{stand_opened}
use Rattle.txn_machine.proofs.Fates.{Fates}
use Rattle.txn_machine.proofs.Idles.{names_client, live_is, live_of}

-- What the mail finds.

and_true : (a : Bool) → a && true ≡ a
and_true true = refl
and_true false = refl

and_false : (a : Bool) → a && false ≡ false
and_false true = refl
and_false false = refl

not_not : (a : Bool) → not (not a) ≡ a
not_not true = refl
not_not false = refl

only_test : (p test : ℕ → Bool) (k : ℕ) → test_at test (only p (Some k)) ≡ p k && test k
only_test p test k = by (p k)
  where
    by : (b : Bool) → test_at test (if b then Some k else None) ≡ b && test k
    by true = refl
    by false = refl

if_test : (live : Bool) (test : ℕ → Bool) (o : Option ℕ) → test_at test (if live then o else None) ≡ live && test_at test o
if_test true test o = refl
if_test false test o = refl

module _ (es : List Event) (old : Lists) (t : Ticket) where
  unsent_awaited : IsUnsent es t → false ≡ is_awaited es t
  unsent_awaited f = sym (ap (λ z. (is_some z && not (is_some (taken_reply es t))) && not (is_lost es t)) f.sent)

  unsent_servable : IsUnsent es t → false ≡ is_servable es t
  unsent_servable f = sym (ap (λ z. is_some z && (not (is_served es t) && not (is_refused es t))) f.sent)

  none_and : (a : Bool) → false ≡ a → (b : Bool) → false ≡ a && b
  none_and a h b = ap (λ z. z && b) h

  module _ (p test : ℕ → Bool) (rest : Bool) (none : IsUnsent es t → false ≡ rest)
      (some : (k : ℕ) → IsFate es t (request_in (slice_get old.mail.sent k)) (letter_at old.mail k) → p k && test k ≡ rest) where
    sent_test : (o : Option Place) → Fate es old.mail t o → test_at test (only p (as_sent o)) ≡ rest
    sent_test None f = none f.0
    sent_test (Some (Slept k)) f = none f.0
    sent_test (Some (Sent k)) f = only_test p test k ∙ some k f

  answer_some : (k : ℕ) → IsFate es t (request_in (slice_get old.mail.sent k)) (letter_at old.mail k) → awaits old.mail k && is_some (letter_at old.mail k).kept ≡ is_awaited es t && is_served es t
  answer_some k f = by (letter_at old.mail k).awaited refl
    where
      by : (b : Bool) → (letter_at old.mail k).awaited ≡ b → (letter_at old.mail k).awaited && is_some (letter_at old.mail k).kept ≡ is_awaited es t && is_served es t
      by true w = λ i. sym f.awaited i && is_some (sym (f.kept w) i)
      by false w = ap (λ z. z && is_some (letter_at old.mail k).kept) w ∙ sym (ap (λ z. z && is_served es t) (f.awaited ∙ w))

  servable_some : (k : ℕ) → IsFate es t (request_in (slice_get old.mail.sent k)) (letter_at old.mail k) → can_be_served old.mail k ≡ is_servable es t
  servable_some k f = λ i. is_some (sym f.sent i) && (not (sym f.served i) && not (sym f.refused i))

  refusable_some : (k : ℕ) → IsFate es t (request_in (slice_get old.mail.sent k)) (letter_at old.mail k) → is_some (busy_reply (request_in (slice_get old.mail.sent k))) ≡ is_refusable es t
  refusable_some k f = ap can_refuse (sym f.sent)

  module _ (fates : Fates es old.mail) where
    place : Option Place
    place = place_of old.mail.tickets t

    unserved_is : test_at (λ k. true) (found_unserved (opened old).mail t) ≡ is_servable es t
    unserved_is = ap (λ z. test_at (λ k. true) (only (can_be_served old.mail) (as_sent z))) (opened_leads old.mail.tickets t)
        ∙ sent_test (can_be_served old.mail) (λ k. true) (is_servable es t) unsent_servable (λ k f. and_true (can_be_served old.mail k) ∙ servable_some k f) (place_of old.mail.tickets t) (fates t)

    out_is : (test : ℕ → Bool) (rest : Bool) → (IsUnsent es t → false ≡ rest) → ((k : ℕ) → IsFate es t (request_in (slice_get old.mail.sent k)) (letter_at old.mail k) → awaits old.mail k && test k ≡ rest)
        → test_at test (found_out (opened old) t) ≡ is_live (opened old).sight t.line && rest
    out_is test rest none some = if_test (is_live (opened old).sight t.line) test (found_awaited (opened old).mail t)
        ∙ ap (λ z. is_live (opened old).sight t.line && z)
        (ap (λ z. test_at test (only (awaits old.mail) (as_sent z))) (opened_leads old.mail.tickets t) ∙ sent_test (awaits old.mail) test rest none some (place_of old.mail.tickets t) (fates t))

    lose_is : test_at (λ k. true) (found_out (opened old) t) ≡ is_live (opened old).sight t.line && is_awaited es t
    lose_is = out_is (λ k. true) (is_awaited es t) unsent_awaited (λ k f. and_true (awaits old.mail k) ∙ sym f.awaited)

    answer_is : test_at (λ k. is_some (letter_at (opened old).mail k).kept) (found_out (opened old) t) ≡ is_live (opened old).sight t.line && (is_awaited es t && is_served es t)
    answer_is = out_is (λ k. is_some (letter_at old.mail k).kept) (is_awaited es t && is_served es t) (λ f. none_and (is_awaited es t) (unsent_awaited f) (is_served es t)) answer_some

    deliver_is : test_at (λ k. can_be_served (opened old).mail k) (found_out (opened old) t) ≡ is_live (opened old).sight t.line && (is_awaited es t && is_servable es t)
    deliver_is = out_is (λ k. can_be_served old.mail k) (is_awaited es t && is_servable es t) (λ f. none_and (is_awaited es t) (unsent_awaited f) (is_servable es t)) (λ k f i. sym f.awaited i && servable_some k f i)

    busy_is : test_at (λ k. can_be_served (opened old).mail k && is_some (busy_reply (request_at (opened old) k))) (found_out (opened old) t) ≡ is_live (opened old).sight t.line && (is_awaited es t && (is_servable es t && is_refusable es t))
    busy_is = out_is (λ k. can_be_served old.mail k && is_some (busy_reply (request_in (slice_get old.mail.sent k)))) (is_awaited es t && (is_servable es t && is_refusable es t)) (λ f. none_and (is_awaited es t) (unsent_awaited f) (is_servable es t && is_refusable es t))
        (λ k f i. sym f.awaited i && (servable_some k f i && refusable_some k f i))

    wake_is : (asleep : Bool) → asleep ≡ is_some (as_slept (place_of old.mail.tickets t)) → test_at (λ k. true) (found_asleep (opened old) t) ≡ is_live (opened old).sight t.line && (asleep && not (is_woken es t))
    wake_is asleep is = if_test (is_live (opened old).sight t.line) (λ k. true) (found_lasting (opened old).mail t)
        ∙ ap (λ z. is_live (opened old).sight t.line && z)
        (ap (λ z. test_at (λ k. true) (only (is_lasting old.mail) (as_slept z))) (opened_leads old.mail.tickets t) ∙ by (place_of old.mail.tickets t) (fates t) ∙ ap (λ z. z && not (is_woken es t)) (sym is))
      where
        by : (o : Option Place) → Fate es old.mail t o → test_at (λ k. true) (only (is_lasting old.mail) (as_slept o)) ≡ is_some (as_slept o) && not (is_woken es t)
        by None f = refl
        by (Some (Sent k)) f = refl
        by (Some (Slept k)) f = only_test (is_lasting old.mail) (λ j. true) k ∙ and_true (is_lasting old.mail k) ∙ sym (not_not (is_lasting old.mail k)) ∙ ap not (sym f.1)

module _ (ls : List Line) (old : Lists) (e : ℕ → ℕ) (was : AreRows ls (λ n. outcome_of old.outcomes n) e (λ n. stand_at old.sight.stands n) old.sight.crashed) (owned : AreOwned old.mail old.sight.stands) where
  abbrev o : ℕ → Outcome
  o n = outcome_of old.outcomes n

  abbrev st : ℕ → Stand
  st n = stand_at old.sight.stands n

  live_opened : (n : ℕ) → is_live (opened old).sight n ≡ lives old.sight.crashed (client_at (st n))
  live_opened n = ap (λ z. lives old.sight.crashed (client_at z)) (stand_opened old.sight.stands n)

  live_hears : (t : Ticket) (c : ℕ) → client_at (st t.line) ≡ Some c → is_live (opened old).sight t.line ≡ hears o ls t
  live_hears t c h = live_opened t.line ∙ live_of ls o e st old.sight.crashed was t.line c h

  -- what names nothing can do nothing, and the client of what names something is known
  exact : (t : Ticket) (rest d : Bool) (x : Outcome) → x ≡ done_if d → d ≡ is_live (opened old).sight t.line && rest → (place_of old.mail.tickets t ≡ None → false ≡ rest) → x ≡ done_if (hears o ls t && rest)
  exact t rest d x is can none = is ∙ ap done_if (can ∙ by (place_of old.mail.tickets t) refl)
    where
      by : (p : Option Place) → place_of old.mail.tickets t ≡ p → is_live (opened old).sight t.line && rest ≡ hears o ls t && rest
      by None e = ap (λ z. is_live (opened old).sight t.line && z) (sym (none e)) ∙ and_false (is_live (opened old).sight t.line) ∙ sym (and_false (hears o ls t)) ∙ ap (λ z. hears o ls t && z) (none e)
      by (Some p) e = let c = owned.owner t p e in ap (λ z. z && rest) (live_hears t c.0 c.1)

  module _ (es : List Event) (asleep : Ticket → Bool) (fates : Fates es old.mail) (store : old.store ≡ store_after es)
      (slept : (t : Ticket) → asleep t ≡ is_some (as_slept (place_of old.mail.tickets t)))
    where
      unsent : (t : Ticket) → place_of old.mail.tickets t ≡ None → false ≡ is_awaited es t
      unsent t e = unsent_awaited es old t (subst (λ z. Fate es old.mail t z) e (fates t)).0

      unsent_and : (t : Ticket) (b : Bool) → place_of old.mail.tickets t ≡ None → false ≡ is_awaited es t && b
      unsent_and t b e = none_and es old t (is_awaited es t) (unsent t e) b

      awake : (t : Ticket) → place_of old.mail.tickets t ≡ None → false ≡ asleep t && not (is_woken es t)
      awake t e = ap (λ z. z && not (is_woken es t)) (sym (slept t ∙ ap (λ z. is_some (as_slept z)) e))

      pub event_meets : (deed : Deed) (x : Outcome) → why_named ls (named_in deed) ≡ None → (role_for deed ≡ NoCall → x ≡ done_if (does_it deed (opened old))) → EventMeets asleep o ls es deed x
      event_meets deeds.Nothing x good is = is refl
      event_meets (deeds.Happens (happenings.Serve t)) x good is = is refl ∙ ap done_if (unserved_is es old t fates)
      event_meets (deeds.Happens (happenings.Answer t)) x good is = exact t (is_awaited es t && is_served es t) (does_it (deeds.Happens (happenings.Answer t)) (opened old)) x (is refl) (answer_is es old t fates) (λ e. unsent_and t (is_served es t) e)
      event_meets (deeds.Happens (happenings.Deliver t)) x good is = exact t (is_awaited es t && is_servable es t) (does_it (deeds.Happens (happenings.Deliver t)) (opened old)) x (is refl) (deliver_is es old t fates) (λ e. unsent_and t (is_servable es t) e)
      event_meets (deeds.Happens (happenings.Lose t)) x good is = exact t (is_awaited es t) (does_it (deeds.Happens (happenings.Lose t)) (opened old)) x (is refl) (lose_is es old t fates) (λ e. unsent t e)
      event_meets (deeds.Happens (happenings.Busy t)) x good is = exact t (is_awaited es t && (is_servable es t && is_refusable es t)) (does_it (deeds.Happens (happenings.Busy t)) (opened old)) x (is refl) (busy_is es old t fates) (λ e. unsent_and t (is_servable es t && is_refusable es t) e)
      event_meets (deeds.Happens (happenings.Wake t)) x good is = exact t (asleep t && not (is_woken es t)) (does_it (deeds.Happens (happenings.Wake t)) (opened old)) x (is refl) (wake_is es old t fates (asleep t) (slept t)) (λ e. awake t e)
      event_meets (deeds.Happens (happenings.Split key)) x good is = is refl ∙ ap (λ s. done_if (can_split s key)) store
      event_meets (deeds.Happens (happenings.Lead region to)) x good is = is refl ∙ ap (λ s. done_if (can_lead s region to)) store
      event_meets (deeds.Happens (happenings.Clock ms)) x good is = is refl
      event_meets (deeds.Happens (happenings.Crash k)) x good is = is refl ∙ ap done_if (live_opened k ∙ live_is ls o e st old.sight.crashed was k (names_client ls k good))
      event_meets deeds.Connect x good is = tt
      event_meets (deeds.Ask client act) x good is = tt
      event_meets (deeds.Use y act) x good is = tt
