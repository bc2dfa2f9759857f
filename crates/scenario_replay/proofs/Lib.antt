mod LineTelling
mod Telling
