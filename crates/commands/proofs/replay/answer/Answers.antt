use Rattle.std.proofs.Common.{Ok, Err}
use Rattle.tgap_model.specs.declared.limits.TheConstants.{MAX_TEXT_BYTES}
use Rattle.plain_io.specs.declared.files.Which.TheVariants.{Packet}
use Rattle.commands.specs.Answers.{Failed}
use Rattle.commands.specs.Replay.{slice_file, packet_file, files_of_replay}
use Rattle.commands.proofs.Loads.{stay_after, fetched_later, second_failed}
use Rattle.commands.proofs.Replays.{slice_passed_on, packet_passed_on, of_texts, counts_told}
use Rattle.commands.proofs.replay.answer.Goals as goal

pub returns-in_err-slice-clause-answers : goal.returns-in_err-slice-clause-answers
returns-in_err-slice-clause-answers g c =
    slice_passed_on c.args.slice.now c.args.packet.now (g.F.Files.told c.args.files.now)
    (Failed (g.F.Files.faults c.args.files.now) (g.F.Files.faults c.load.new.files))
    c.in_err-slice.field-0.0 c.from_residual.result c.from_residual.ensures.1 c.in_err-slice.ensures.fetched

pub returns-in_err-packet-clause-answers : goal.returns-in_err-packet-clause-answers
returns-in_err-packet-clause-answers g c =
    let told = g.F.Files.told c.args.files.now in
    let before = g.F.Files.faults c.args.files.now in
    let middle = g.F.Files.faults c.load.new.files in
    let now = g.F.Files.faults c.load-2.new.files in
    packet_passed_on c.args.slice.now c.args.packet.now told (Failed before now) c.in_ok-slice.slice c.in_ok-slice.ensures.fetched.0 c.in_ok-slice.ensures.fetched.1
    c.in_err-packet.field-0.0 c.from_residual-in_err-packet.result c.from_residual-in_err-packet.ensures.1
    (fetched_later (told Packet c.args.packet.now) _ MAX_TEXT_BYTES Packet before middle now (Err c.in_err-packet.field-0.0)
    (c.in_ok-slice.ensures.told Packet c.args.packet.now)
    (stay_after (slice_file c.args.slice.now) before middle c.in_ok-slice.slice c.in_ok-slice.ensures.counts) c.in_err-packet.ensures.fetched)

pub returns-in_err-packet-clause-counts : goal.returns-in_err-packet-clause-counts
returns-in_err-packet-clause-counts g c =
    let before = g.F.Files.faults c.args.files.now in
    let middle = g.F.Files.faults c.load.new.files in
    let now = g.F.Files.faults c.load-2.new.files in
    counts_told (files_of_replay c.args.slice.now c.args.packet.now) before now c.from_residual-in_err-packet.result
    (second_failed (slice_file c.args.slice.now) (packet_file c.args.packet.now) before middle now
    c.in_err-packet.field-0.0 c.from_residual-in_err-packet.result
    (stay_after (slice_file c.args.slice.now) before middle c.in_ok-slice.slice c.in_ok-slice.ensures.counts)
    c.from_residual-in_err-packet.ensures.1 c.in_err-packet.ensures.counts)

pub returns-clause-answers : goal.returns-clause-answers
returns-clause-answers g c =
    let told = g.F.Files.told c.args.files.now in
    let before = g.F.Files.faults c.args.files.now in
    let middle = g.F.Files.faults c.load.new.files in
    let now = g.F.Files.faults c.load-2.new.files in
    let packet = fetched_later (told Packet c.args.packet.now) _ MAX_TEXT_BYTES Packet before middle now (Ok c.in_ok-packet.packet)
    (c.in_ok-slice.ensures.told Packet c.args.packet.now)
    (stay_after (slice_file c.args.slice.now) before middle c.in_ok-slice.slice c.in_ok-slice.ensures.counts) c.in_ok-packet.ensures.fetched in
    of_texts c.args.slice.now c.args.packet.now told (Failed before now) c.in_ok-slice.slice c.in_ok-slice.ensures.fetched.0 c.in_ok-slice.ensures.fetched.1
    c.in_ok-packet.packet _ packet.0 packet.1 (rw (c.as_slice.ensures, c.as_slice-2.ensures) at c.texts_replayed.ensures)
