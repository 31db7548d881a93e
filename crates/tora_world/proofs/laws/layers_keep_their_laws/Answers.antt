use Rattle.tora_world.proofs.laws.layers_keep_their_laws.Goals as goal

pub returns-clause-links : goal.returns-clause-links
returns-clause-links c = record {
  first = c.calls_keep_an_end.ensures.first;
  next = c.calls_keep_an_end.ensures.next;
  fixed = c.lives_are_bound_once.ensures.fixed;
  binds = c.lives_are_bound_once.ensures.binds;
  opens = c.lives_are_bound_once.ensures.opens;
  number = c.lives_are_bound_once.ensures.number;
  frame = c.data_frames_are_what_was_submitted.ensures.frame;
  content = c.data_frames_are_what_was_submitted.ensures.content;
  begins = c.data_frames_are_what_was_submitted.ensures.first;
  queue = c.data_frames_are_what_was_submitted.ensures.queue;
  own = c.packets_are_submitted_in_the_bound_life.ensures.own;
  other = c.packets_are_submitted_in_the_bound_life.ensures.other;
  delivers = c.deliveries_are_in_order.ensures.next;
  packets = c.deliveries_are_in_order.ensures.packets;
  behind = c.events_of_a_life_are_in_order.ensures.behind;
  between = c.events_of_a_life_are_in_order.ensures.between;
  none_counted = c.acknowledged_counts_come_from_the_peer.ensures.first;
  counted = c.acknowledged_counts_come_from_the_peer.ensures.next;
}

pub returns-clause-files : goal.returns-clause-files
returns-clause-files c = record {
  first = c.drawn_life_numbers_rise.ensures.first;
  draw = c.drawn_life_numbers_rise.ensures.draw;
  keep = c.drawn_life_numbers_rise.ensures.keep;
  crash = c.drawn_life_numbers_rise.ensures.crash;
}

pub returns-clause-cores : goal.returns-clause-cores
returns-clause-cores c = record {
  neighbours = c.tables_stay.ensures.neighbours;
  comes = c.links_follow_inputs.ensures.comes;
  goes = c.links_follow_inputs.ensures.goes;
  others_at_up = c.links_follow_inputs.ensures.others_at_up;
  others_at_down = c.links_follow_inputs.ensures.others_at_down;
  at_packet = c.links_follow_inputs.ensures.at_packet;
  at_need = c.links_follow_inputs.ensures.at_need;
  link_up = c.inputs_are_accepted.ensures.link_up;
  link_down = c.inputs_are_accepted.ensures.link_down;
  packet = c.inputs_are_accepted.ensures.packet;
  put = c.numbers_come_and_go.ensures.put;
  members = c.numbers_are_put_in_order.ensures.members;
}

pub returns-clause-seats : goal.returns-clause-seats
returns-clause-seats c = record {
  runs = c.accepted_inputs_make_the_core.ensures.runs;
  next = c.cut_links_go_down.ensures.next;
  none_left = c.cut_links_go_down.ensures.none_left;
}

pub returns-clause-rules : goal.returns-clause-rules
returns-clause-rules c = record {
  order = c.heights_are_totally_ordered.ensures.total;
  lower = c.heights_are_totally_ordered.ensures.lower;
  same = c.heights_are_totally_ordered.ensures.same;
  kept = c.runs_are_kept.ensures;
  up = c.up_links_are_of_neighbours.ensures.neighbours;
  downstream = c.words_are_computed.ensures.downstream;
  next_hop = c.words_are_computed.ensures.next_hop;
  no_hop = c.nothing_is_found.ensures.next_hop;
}
