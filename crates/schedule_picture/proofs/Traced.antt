-- The texts of a trace in Chrome's format, as they are written field by field.
use Rattle.std.proofs.Common.{◌≡◌, ℕ, ◌-◌, List, [], ◌++◌, append_assoc, ap, ◌∙◌}
use Rattle.std.specs.Prelude.{codes}
use Rattle.affinity_mask.specs.Number.{canonical_number}
use Rattle.task_set.specs.TaskSet.{SetData}
use Rattle.strong_apa.specs.declared.reply.Entry.{Entry}
use Rattle.schedule_picture.specs.declared.tracks.Tracks.{Tracks}
use Rattle.schedule_picture.specs.Chrome.{IsChrome, chrome_of, stay_event_text, thread_of, thread_text}
use Rattle.schedule_picture.specs.History.{HaveSpans}
use Rattle.schedule_picture.specs.Picture.{clock_of, spans_in}

event_joined : (t0 t1 t2 t3 t4 t5 t6 a name b p c begin d dur e : List ℕ) → t1 ≡ t0 ++ a → t2 ≡ t1 ++ name → t3 ≡ t2 ++ (b ++ p)
    → t4 ≡ t3 ++ (c ++ begin) → t5 ≡ t4 ++ (d ++ dur) → t6 ≡ t5 ++ e
    → t6 ≡ t0 ++ (a ++ name ++ b ++ p ++ c ++ begin ++ d ++ dur ++ e)
event_joined t0 t1 t2 t3 t4 t5 t6 a name b p c begin d dur e e1 e2 e3 e4 e5 e6 = rw (e6, e5, e4, e3, e2, e1) (simp append_assoc)

pub event_written : (name : List ℕ) (p begin end : ℕ) (t0 t1 t2 t3 t4 t5 t6 : List ℕ) → t1 ≡ t0 ++ codes ",\n{\"name\":\"" → t2 ≡ t1 ++ name
    → t3 ≡ t2 ++ (codes "\",\"ph\":\"X\",\"pid\":1,\"tid\":" ++ canonical_number (thread_of p))
    → t4 ≡ t3 ++ (codes ",\"ts\":" ++ canonical_number begin)
    → t5 ≡ t4 ++ (codes ",\"dur\":" ++ canonical_number (end - begin)) → t6 ≡ t5 ++ codes "}" → t6 ≡ t0 ++ stay_event_text name p begin end
unfolding stay_event_text
event_written name p begin end t0 t1 t2 t3 t4 t5 t6 e1 e2 e3 e4 e5 e6 =
    event_joined t0 t1 t2 t3 t4 t5 t6 (codes ",\n{\"name\":\"") name (codes "\",\"ph\":\"X\",\"pid\":1,\"tid\":")
    (canonical_number (thread_of p)) (codes ",\"ts\":") (canonical_number begin) (codes ",\"dur\":") (canonical_number (end - begin))
    (codes "}") e1 e2 e3 e4 e5 e6

thread_joined : (t0 t1 t2 t3 a thread b p c : List ℕ) → t1 ≡ t0 ++ (a ++ thread) → t2 ≡ t1 ++ (b ++ p) → t3 ≡ t2 ++ c
    → t3 ≡ t0 ++ (a ++ thread ++ b ++ p ++ c)
thread_joined t0 t1 t2 t3 a thread b p c e1 e2 e3 = rw (e3, e2, e1) (simp append_assoc)

pub thread_written : (p : ℕ) (t0 t1 t2 t3 : List ℕ)
    → t1 ≡ t0 ++ (codes ",\n{\"name\":\"thread_name\",\"ph\":\"M\",\"pid\":1,\"tid\":" ++ canonical_number (thread_of p))
    → t2 ≡ t1 ++ (codes ",\"args\":{\"name\":\"cpu " ++ canonical_number p) → t3 ≡ t2 ++ codes "\"}}" → t3 ≡ t0 ++ thread_text p
unfolding thread_text
thread_written p t0 t1 t2 t3 e1 e2 e3 =
    thread_joined t0 t1 t2 t3 (codes ",\n{\"name\":\"thread_name\",\"ph\":\"M\",\"pid\":1,\"tid\":") (canonical_number (thread_of p))
    (codes ",\"args\":{\"name\":\"cpu ") (canonical_number p) (codes "\"}}") e1 e2 e3

-- the threads and the events between the head and the end
pub trace_joined : (t0 t1 t2 t3 t4 head threads events end : List ℕ) → t0 ≡ [] → t1 ≡ t0 ++ head → t2 ≡ t1 ++ threads → t3 ≡ t2 ++ events
    → t4 ≡ t3 ++ end → t4 ≡ head ++ threads ++ events ++ end
trace_joined t0 t1 t2 t3 t4 head threads events end e0 e1 e2 e3 e4 = rw (e4, e3, e2, e1, e0) (simp append_assoc)

-- the text of all stays of a history, by its clock, is a trace of it
pub trace_is : (start : ℕ) (set : SetData) (entries : List Entry) (tracks : Tracks) (moments text : List ℕ) → HaveSpans set entries tracks
    → moments ≡ clock_of start entries
    → text ≡ chrome_of moments set (spans_in tracks.lanes.items) → IsChrome start set entries text
trace_is start set entries tracks moments text have same_moments is = record {
  lanes = spans_in tracks.lanes.items;
  of_lanes = have.lanes;
  is_text = is ∙ ap (λ (ms : List ℕ). chrome_of ms set (spans_in tracks.lanes.items)) same_moments;
}
