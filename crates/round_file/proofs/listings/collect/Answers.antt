use Rattle.std.proofs.Common.{vec_items, rules}
use Rattle.round_file.proofs.Lists.{grown, ended, stopped}
use Rattle.round_file.proofs.listings.collect.Goals as goal
use Rattle.round_file.proofs.listings.collect.Goals.{in-Ok-None, in-Err}

pub loop-record-preserved : goal.loop-record-preserved
loop-record-preserved c =
    let h = c.args.reader.now.header in
    let l = c.loop-record in (
      grown h.ring.ticks h.count c.args.reader.now.bytes.now c.args.reader.now.cursor l.reader.cursor c.next.new.self.cursor (vec_items l.records) l.invariant.0
          c.in-Ok-Some.record (vec_items c.push.new.self) (search rules) (search rules),
      search rules,
      search rules,
      search rules,
    )

pub returns-clause-cases : goal.returns-clause-cases
returns-clause-cases c =
    let h = c.args.reader.now.header in
    let bs = c.args.reader.now.bytes.now in
    let start = c.args.reader.now.cursor in
    let l = c.loop-record in
    elim c.match-next.branch [
      | in-Ok-None w ↦
          record {
            reads = ended h.ring.ticks h.count bs start l.reader.cursor c.next.new.self.cursor (vec_items l.records) l.invariant.0 c.match-next.stop w.stop-is (search rules);
            read = search rules;
          }
      | in-Err w ↦
          record {
            reads = stopped h.ring.ticks h.count bs start l.reader.cursor c.next.new.self.cursor (vec_items l.records) l.invariant.0 c.match-next.stop w.in-Err.refusal w.stop-is (search rules);
            read = search rules;
          }
    ]
