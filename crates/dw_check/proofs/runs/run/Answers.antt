use Rattle.std.proofs.Common.{[], map, rules}
use Rattle.std.specs.Io.KnownBytes.{Appends}
use Rattle.dw_check.specs.Runs.{Reply, refusal, accepted_text, IsReply}
use Rattle.dw_check.specs.SinkBytes.{AppendsFront}
use Rattle.dw_check.specs.Text.{refused_line}
use Rattle.dw_check.proofs.Growth.{front_more}
use Rattle.dw_check.proofs.runs.run.Goals as goal

pub returns-in-Err-Refused-clause-ends : goal.returns-in-Err-Refused-clause-ends
returns-in-Err-Refused-clause-ends g c =
    let old = g.S.Sink.taken c.args.sink.now in
    let mid = g.S.Sink.taken c.show_reply.new.out.sink.now in
    let new = g.S.Sink.taken c.write_refused.new.out.sink.now in
    let reply = refusal c.in-Err-Refused.section c.in-Err-Refused.fault in
    let line = refused_line c.in-Err-Refused.section c.in-Err-Refused.fault in
    let none : Appends old mid [] = search (rules, c.in-Err-Refused.ensures.goes) in
    let is : IsReply c.args.request.now (map (λ file. file.items) c.args.files.now) reply = search (rules, c.in-Err-Refused.ensures.goes) in
    let front : AppendsFront mid new line = search (rules, c.in-Err-Write.ensures.written) in
    let all : AppendsFront old new line = front_more old mid new [] line none front in
    (reply, is, tt, search (rules, all), search rules)

pub returns-in-Err-Memory-clause-ends : goal.returns-in-Err-Memory-clause-ends
returns-in-Err-Memory-clause-ends g c =
    let old = g.S.Sink.taken c.args.sink.now in
    let mid = g.S.Sink.taken c.show_reply.new.out.sink.now in
    let front : (reply : Reply) → IsReply c.args.request.now (map (λ file. file.items) c.args.files.now) reply
    → AppendsFront old mid (accepted_text reply) = search (rules, c.in-Err-Memory.ensures.goes) in
    (λ reply is. search (rules, front reply is), search rules)
