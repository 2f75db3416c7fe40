use Rattle.std.proofs.Common.{◌≡◌, None, refl, sym}
use Rattle.commands.proofs.Statuses.{put_is, answered_says, zero_says, two_says, none_says, first_says, missing_says, counts_say, kinds_say, four_says, five_says, six_says, eight_apart, nine_says, sink_stays, exact_says}
use Rattle.serving.specs.Asked.{serving_of}
use Rattle.serving.proofs.Servings.{by_status, doors_back, fault_put, served_or_none}
use Rattle.map_server.proofs.Served.{unserved, is_served, same_command, two_apart, of_command}
use Rattle.map_server.proofs.run.run.Goals as goal

pub returns-in-None : goal.returns-in-None
returns-in-None g c =
    let p = put_is _ _ _ _ _ _ _ _ _ _ _ c.execute.ensures.answers c.execute.ensures.counts c.put.ensures in
    let none = c.in-None.ensures.asked in
    record {
      answered = λ n. answered_says p;
      exact = λ n. exact_says p;
      done = λ n. zero_says p;
      usage = λ e. (two_says p e, sym none);
      no_command = λ e n. none_says p e;
      load_fault = λ n. first_says p;
      missing = λ n. missing_says p;
      loads_kept = counts_say p;
      kinds_kept = λ n. kinds_say p;
      refused = λ n. four_says p;
      too_high = λ n. five_says p;
      unfit = λ n. nine_says p;
      serve_sound = λ s e. absurd (unserved _ s none e);
      serve_refused = λ s e. absurd (unserved _ s none e);
      serve_kinds_kept = λ s e. absurd (unserved _ s none e);
      serve_line = λ s e. absurd (unserved _ s none e);
      serve_fault_line = λ s e. absurd (unserved _ s none e);
      serve_front = λ s e. absurd (unserved _ s none e);
      doors = λ s e. absurd (unserved _ s none e);
      connections = λ s e. absurd (unserved _ s none e);
      port_fault = λ e. absurd (eight_apart p e);
      port_kept = λ a b. refl;
      harbour_kept = λ n. refl;
      no_disk = λ n. (refl, refl);
      disks_kept = λ e. refl;
      sink_fault = six_says p;
      sink_kept = sink_stays p;
    }

pub returns-in-Some : goal.returns-in-Some
returns-in-Some g c =
    let some = c.in-Some.ensures.asked in
    let e = c.run_serve.ensures in
    let s = e.serves in
    record {
      answered = λ n. absurd (is_served _ _ some n);
      exact = λ n. absurd (is_served _ _ some n);
      done = λ n. absurd (is_served _ _ some n);
      usage = λ two. absurd (two_apart (serving_of c.in-Some.serving) _ _ _ _ _ _ _ _ two s.other);
      no_command = λ k n. absurd (is_served _ _ some n);
      load_fault = λ n. absurd (is_served _ _ some n);
      missing = λ n. absurd (is_served _ _ some n);
      loads_kept = e.loads_kept;
      kinds_kept = λ n. absurd (is_served _ _ some n);
      refused = λ n. absurd (is_served _ _ some n);
      too_high = λ n. absurd (is_served _ _ some n);
      unfit = λ n. absurd (is_served _ _ some n);
      serve_sound = λ a asked. rw (same_command _ _ a some asked) e.sound;
      serve_refused = λ a asked. rw (same_command _ _ a some asked) s.other;
      serve_kinds_kept = λ a asked. rw (same_command _ _ a some asked) e.kinds_kept;
      serve_line = λ a asked. rw (same_command _ _ a some asked) (λ zero. (s.line zero).0);
      serve_fault_line = λ a asked. rw (same_command _ _ a some asked) (fault_put _ _ _ _ _ _ _ _ _ _ _ s);
      serve_front = λ a asked. rw (same_command _ _ a some asked) s.front;
      doors = λ a asked. rw (same_command _ _ a some asked) (by_status _ _ c.run_serve.result s.doors
          (λ zero. doors_back g.H.Gate.Door.closed g.H.Gate.Door.faults g.H.Gate.Door.told g.H.Gate.Line.Link _ _ _ _ _ c.run_serve.result
          (s.line zero).1.2.1));
      connections = λ a asked. rw (same_command _ _ a some asked) (served_or_none _ _ _ _ _ _ _ _ _ _ _ s);
      port_fault = s.port_fault;
      port_kept = s.sound;
      harbour_kept = λ n. absurd (is_served _ _ some n);
      no_disk = λ h. e.no_disk (of_command _ _ (λ c. c.journal ≡ None) some h);
      disks_kept = e.disks_kept;
      sink_fault = s.sink_fault;
      sink_kept = s.sink_kept;
    }
