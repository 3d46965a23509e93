-- What an oracle answers may be answered.
use Rattle.std.proofs.Common.{ℕ, inl, inr, Bool, List, [], ◌∷◌, length, map, Option, Some, None, refl}
use Rattle.std.specs.Prelude.{Result, Ok, Err}
use Rattle.txn_kv.specs.Timestamp.{version_of}
use Rattle.txn_kv.specs.declared.errors.Error.{Error}
use Rattle.txn_kv.specs.declared.reply.Reply.TheVariants as reply
use Rattle.txn_kv.specs.declared.reply.cluster.TsoResponse.{TsoResponse}
use Rattle.txn_kv.specs.declared.request.Request.TheVariants.{Tso}
use Rattle.txn_kv.specs.declared.request.cluster.TsoRequest.{TsoRequest}
use Rattle.txn_kv.specs.declared.ticket.Ticket.{Ticket}
use Rattle.txn_kv.specs.declared.timestamp.Timestamp.{Timestamp}
use Rattle.txn_history.specs.Among.{IsAmong}
use Rattle.txn_history.specs.Event.{Event, Has}
use Rattle.txn_history.specs.Event.Event.{Took, Asked, Answered}
use Rattle.txn_history.specs.Licence.{WasTimed}
use Rattle.txn_history.specs.Plan.{Plan}
use Rattle.txn_history.specs.Posted.{Errand, after}
use Rattle.txn_law.specs.Part.{IsPart}
use Rattle.txn_law.specs.Run.{IsPossible, IsRun}
use Rattle.txn_tso.specs.Oracle.{Answer, Oracle, answered, answers, askers_out, group_or_none}
use Rattle.txn_tso.specs.declared.asker.Asker.{Asker}
use Rattle.txn_trace.specs.Answering.{AreAnswerable, GroupFits, OracleFits, answering, ask_of}
use Rattle.txn_trace.proofs.Fitting.{out_asked}
use Rattle.txn_trace.proofs.Granting.{answer_among, answer_of, behind_small, grant_gives, grant_is}
use Rattle.txn_trace.proofs.Parts.{part_after, part_carries}

pub timed : (o : Oracle) (t : Ticket) (h : List Event) (r : TsoRequest) (x : TsoResponse) → OracleFits o t h → Has h (Took t (Tso r) (reply.Tso x))
    → (a : Asker) (time : Timestamp) → IsAmong (answered x o) (a, Ok time) → WasTimed h (ask_of a) (version_of time)
timed o t h r x f k a time m = by o.out f.out m
  where
    by : (out : Option (List Asker)) → GroupFits out t h → IsAmong (answers x (length (group_or_none out)) (group_or_none out)) (a, Ok time) → WasTimed h (ask_of a) (version_of time)
    by None g n = absurd n
    by (Some group) g n =
        let w = answer_of x (length group) group a (Ok time) n in
        let small = behind_small w.ahead w.behind a group w.group_is in
        (t, r, x, g.1 a (answer_among x (length group) group a (Ok time) w), k, grant_gives x (length group) (length w.behind) time small (grant_is x (length group) (length w.behind) time small w.given))

-- Each of them

all_answerable : (h : List Event) (bs : List Answer) → ((a : Answer) → IsAmong bs a → IsPossible h (answering a)) → AreAnswerable bs h
all_answerable h [] f = tt
all_answerable h (a ∷ bs) f = (f a (inl refl), all_answerable h bs (λ b m. f b (inr m)))

pub taken_answerable : (o : Oracle) (t : Ticket) (h : List Event) (r : TsoRequest) (x : TsoResponse) → OracleFits o t h → Has h (Took t (Tso r) (reply.Tso x)) → AreAnswerable (answered x o) h
taken_answerable o t h r x f k = all_answerable h (answered x o) (λ a m. by a.0 a.1 m)
  where
    by : (a : Asker) (told_it : Result Timestamp Error) → IsAmong (answered x o) (a, told_it) → IsPossible h (Answered (ask_of a) told_it)
    by a (Ok time) m = timed o t h r x f k a time m
    by a (Err why) m = out_asked o t h f a (answer_among x (length (askers_out o)) (askers_out o) a (Err why) (answer_of x (length (askers_out o)) (askers_out o) a (Err why) m))

pub lost_answerable : (o : Oracle) (t : Ticket) (h : List Event) (why : Asker → Error) → OracleFits o t h → AreAnswerable (map (λ (a : Asker). (a, Err (why a))) (askers_out o)) h
lost_answerable o t h why f = each (askers_out o) (out_asked o t h f)
  where
    each : (bs : List Asker) → ((a : Asker) → IsAmong bs a → Has h (Asked (ask_of a))) → AreAnswerable (map (λ (a : Asker). (a, Err (why a))) bs) h
    each [] g = tt
    each (a ∷ bs) g = (g a (inl refl), each bs (λ b m. g b (inr m)))

-- They stay so.

possible_more : (h : List Event) (e : Event) (a : Ticket) (answer : Result Timestamp Error) → IsPossible h (Answered a answer) → IsPossible (e ∷ h) (Answered a answer)
possible_more h e a (Err why) p = inr p
possible_more h e a (Ok time) p = (p.0, p.1, p.2, inr p.3, inr p.4, p.5)

pub answerable_more : (bs : List Answer) (h : List Event) (e : Event) → AreAnswerable bs h → AreAnswerable bs (e ∷ h)
answerable_more [] h e w = tt
answerable_more (a ∷ bs) h e w = (possible_more h e (ask_of a.0) a.1 w.0, answerable_more bs h e w.1)

pub answerable_longer : (bs : List Answer) (h longer : List Event) → IsPart longer h → AreAnswerable bs h → AreAnswerable bs longer
answerable_longer bs h longer part w = part_carries (AreAnswerable bs) (λ e k v. answerable_more bs k e v) longer h part w

pub answerable_after : (bs : List Answer) (h : List Event) (line : ℕ) (beat : Bool) (rs : List Errand) → AreAnswerable bs h → AreAnswerable bs (after line beat h rs)
answerable_after bs h line beat rs w = answerable_longer bs h (after line beat h rs) (part_after line beat h rs) w

pub answer_next : (plans : ℕ → Plan) (h : List Event) (a : Answer) (rest : List Answer) → IsRun plans h → AreAnswerable (a ∷ rest) h → IsRun plans (answering a ∷ h) × AreAnswerable rest (answering a ∷ h)
answer_next plans h a rest run w = ((w.0, tt, run), answerable_more rest h (answering a) w.1)
