use Rattle.journal.proofs.Shown.{front_put, back_put}
use Rattle.journal.proofs.queue.Queue.insert.Goals as goal

pub returns-in_ok-push_front : goal.returns-in_ok-push_front
returns-in_ok-push_front c =
    rw (← c.self.view_is) (front_put c.self.inside.waits.items c.push_front.new.self.items c.args.wait c.args.lifo
    c.if-lifo.true c.in_ok-push_front.ensures.items)

pub returns-in_ok-push_back : goal.returns-in_ok-push_back
returns-in_ok-push_back c =
    rw (← c.self.view_is) (back_put c.self.inside.waits.items c.push_back.new.self.items c.args.wait c.args.lifo
    c.if-lifo.false c.in_ok-push_back.ensures.items)
